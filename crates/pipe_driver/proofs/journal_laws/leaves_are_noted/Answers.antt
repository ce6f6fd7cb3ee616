use Rattle.pipe_driver.proofs.Sinks.{leave_noted}
use Rattle.pipe_driver.proofs.journal_laws.leaves_are_noted.Goals as goal

pub returns : goal.returns
returns c = leave_noted
