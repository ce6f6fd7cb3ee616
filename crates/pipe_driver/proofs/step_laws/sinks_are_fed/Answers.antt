use Rattle.pipe_driver.proofs.Counting.{counted}
use Rattle.pipe_driver.proofs.step_laws.sinks_are_fed.Goals as goal

pub returns : goal.returns
returns c = counted
