use Rattle.pipe_run.proofs.Sources.{taken}
use Rattle.pipe_run.proofs.note_laws.sources_are_taken.Goals as goal

pub returns : goal.returns
returns c = taken
