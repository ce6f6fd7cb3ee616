use Rattle.pipe_driver.proofs.Reached.{all_there}
use Rattle.pipe_driver.proofs.step_laws.rows_are_there.Goals as goal

pub returns : goal.returns
returns c = all_there
