use Rattle.pipe_driver.proofs.Bounds.{give_own}
use Rattle.pipe_driver.proofs.step_laws.joins_give_own.Goals as goal

pub returns : goal.returns
returns c = give_own
