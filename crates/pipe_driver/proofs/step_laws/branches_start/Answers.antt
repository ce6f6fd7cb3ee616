use Rattle.pipe_driver.proofs.Starts.{starts}
use Rattle.pipe_driver.proofs.step_laws.branches_start.Goals as goal

pub returns : goal.returns
returns c = starts
