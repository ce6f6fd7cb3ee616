use Rattle.pipe_driver.proofs.Legs.{leg_noted}
use Rattle.pipe_driver.proofs.journal_laws.legs_are_noted.Goals as goal

pub returns : goal.returns
returns c = leg_noted
