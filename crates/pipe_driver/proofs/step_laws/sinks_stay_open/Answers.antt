use Rattle.pipe_driver.proofs.Closed.{stays_open}
use Rattle.pipe_driver.proofs.step_laws.sinks_stay_open.Goals as goal

pub returns : goal.returns
returns c = stays_open
