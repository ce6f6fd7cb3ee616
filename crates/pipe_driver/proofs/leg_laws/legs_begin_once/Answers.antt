use Rattle.pipe_driver.proofs.Runnable.{begin_once}
use Rattle.pipe_driver.proofs.leg_laws.legs_begin_once.Goals as goal

pub returns : goal.returns
returns c = begin_once
