use Rattle.pipe_driver.proofs.Runnable.{at_sources}
use Rattle.pipe_driver.proofs.leg_laws.legs_begin_at_sources.Goals as goal

pub returns : goal.returns
returns c = at_sources
