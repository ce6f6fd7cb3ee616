use Rattle.pipe_driver.proofs.Runnable.{can_run}
use Rattle.pipe_driver.proofs.leg_laws.branches_can_run.Goals as goal

pub returns : goal.returns
returns c = can_run
