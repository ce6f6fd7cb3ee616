use Rattle.pipe_driver.proofs.Runnable.{come_first}
use Rattle.pipe_driver.proofs.leg_laws.built_sides_come_first.Goals as goal

pub returns : goal.returns
returns c = come_first
