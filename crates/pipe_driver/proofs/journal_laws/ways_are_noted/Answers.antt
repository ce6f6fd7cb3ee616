use Rattle.pipe_driver.proofs.Sinks.{way_noted}
use Rattle.pipe_driver.proofs.journal_laws.ways_are_noted.Goals as goal

pub returns : goal.returns
returns c = way_noted
