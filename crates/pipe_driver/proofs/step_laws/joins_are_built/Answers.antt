use Rattle.pipe_driver.proofs.Settled.{settled}
use Rattle.pipe_driver.proofs.step_laws.joins_are_built.Goals as goal

pub returns : goal.returns
returns c = settled
