use Rattle.pipe_driver.proofs.Sinks.{feed_noted}
use Rattle.pipe_driver.proofs.journal_laws.feeds_are_noted.Goals as goal

pub returns : goal.returns
returns c = feed_noted
