use Rattle.pipe_driver.proofs.Runnable.{are_chains}
use Rattle.pipe_driver.proofs.leg_laws.legs_are_chains.Goals as goal

pub returns : goal.returns
returns c = are_chains
