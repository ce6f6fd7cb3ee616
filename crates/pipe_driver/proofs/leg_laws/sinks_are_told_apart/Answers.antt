use Rattle.pipe_driver.proofs.Numbered.{told_apart}
use Rattle.pipe_driver.proofs.leg_laws.sinks_are_told_apart.Goals as goal

pub returns : goal.returns
returns c = told_apart
