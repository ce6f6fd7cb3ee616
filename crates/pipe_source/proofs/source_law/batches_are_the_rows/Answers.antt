use Rattle.pipe_source.proofs.LawLemmas.{joined, some_rows}
use Rattle.pipe_source.proofs.source_law.batches_are_the_rows.Goals as goal

pub returns-clause-all : goal.returns-clause-all
returns-clause-all c = joined

pub returns-clause-some : goal.returns-clause-some
returns-clause-some c = some_rows
