use Rattle.pipe_driver.proofs.Counting.{closes_last}
use Rattle.pipe_driver.proofs.step_laws.joins_are_closed.Goals as goal

pub returns : goal.returns
returns c = closes_last
