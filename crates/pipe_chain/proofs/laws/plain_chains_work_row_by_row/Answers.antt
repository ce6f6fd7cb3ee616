use Rattle.pipe_chain.proofs.PlainLemmas.{plain-flows}
use Rattle.pipe_chain.proofs.laws.plain_chains_work_row_by_row.Goals as goal

pub returns : goal.returns
returns c = λ works acts rows out plain few f. plain-flows works acts rows out plain few f
