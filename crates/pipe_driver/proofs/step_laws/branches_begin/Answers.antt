use Rattle.pipe_driver.proofs.Begins.{begins_way}
use Rattle.pipe_driver.proofs.step_laws.branches_begin.Goals as goal

pub returns : goal.returns
returns c = begins_way
