use Rattle.pipe_driver.proofs.Closed.{resumes}
use Rattle.pipe_driver.proofs.step_laws.ways_go_on.Goals as goal

pub returns : goal.returns
returns c = resumes
