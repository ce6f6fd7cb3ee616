use Rattle.pipe_driver.proofs.Runnable.{are_run}
use Rattle.pipe_driver.proofs.leg_laws.every_join_is_run.Goals as goal

pub returns : goal.returns
returns c = are_run
