use Rattle.pipe_driver.proofs.LegPasses.{passed}
use Rattle.pipe_driver.proofs.step_laws.legs_pass.Goals as goal

pub returns : goal.returns
returns c = passed
