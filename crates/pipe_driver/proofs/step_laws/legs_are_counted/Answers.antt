use Rattle.pipe_driver.proofs.Counting.{stays}
use Rattle.pipe_driver.proofs.step_laws.legs_are_counted.Goals as goal

pub returns : goal.returns
returns c = stays
