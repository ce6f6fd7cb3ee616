use Rattle.pipe_driver.proofs.Sinks.{open_noted}
use Rattle.pipe_driver.proofs.journal_laws.open_sinks_are_noted.Goals as goal

pub returns : goal.returns
returns c = open_noted
