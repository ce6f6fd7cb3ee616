use Rattle.pipe_driver.proofs.Bounds.{stay_within}
use Rattle.pipe_driver.proofs.step_laws.rows_stay_within.Goals as goal

pub returns : goal.returns
returns c = stay_within
