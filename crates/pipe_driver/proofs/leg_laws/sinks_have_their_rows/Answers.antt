use Rattle.pipe_driver.proofs.Runnable.{into_sinks}
use Rattle.pipe_driver.proofs.leg_laws.sinks_have_their_rows.Goals as goal

pub returns : goal.returns
returns c = into_sinks
