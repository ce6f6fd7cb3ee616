use Rattle.pipe_driver.proofs.Sinks.{begin_noted}
use Rattle.pipe_driver.proofs.journal_laws.branches_are_noted.Goals as goal

pub returns : goal.returns
returns c = begin_noted
