use Rattle.pipe_driver.proofs.SidesTogether.{stand_together}
use Rattle.pipe_driver.proofs.side_laws.sides_stand_together.Goals as goal

pub returns : goal.returns
returns c = stand_together
