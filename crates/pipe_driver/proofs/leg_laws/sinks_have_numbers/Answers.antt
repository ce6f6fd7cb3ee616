use Rattle.pipe_driver.proofs.Numbered.{have_numbers}
use Rattle.pipe_driver.proofs.leg_laws.sinks_have_numbers.Goals as goal

pub returns : goal.returns
returns c = have_numbers
