use Rattle.pipe_driver.proofs.Sums.{alike_from}
use Rattle.pipe_driver.proofs.Flowing.{arrived}
use Rattle.pipe_driver.proofs.chain_laws.rows_come_along_chains.Goals as goal

pub returns : goal.returns
returns c = λ m n s ops ws acts rows out sound above sink makes flows. arrived m n s ops ws acts rows out sound above sink (alike_from m n ops s sound above sink) makes flows
