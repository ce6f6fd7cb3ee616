use Rattle.pipe_driver.proofs.Begins.{over}
use Rattle.pipe_driver.proofs.step_laws.none_is_open.Goals as goal

pub returns : goal.returns
returns c = over
