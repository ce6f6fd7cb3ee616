use Rattle.pipe_driver.proofs.Refusals.{many_wide, wide_under}
use Rattle.pipe_driver.proofs.step_laws.wide_nodes_are_told.Goals as goal

pub returns : goal.returns
returns c = record { wide = many_wide; under = wide_under }
