use Rattle.pipe_driver.proofs.Closed.{closes}
use Rattle.pipe_driver.proofs.step_laws.sinks_are_closed.Goals as goal

pub returns : goal.returns
returns c = closes
