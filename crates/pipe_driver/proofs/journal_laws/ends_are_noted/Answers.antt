use Rattle.pipe_driver.proofs.Ends.{end_noted}
use Rattle.pipe_driver.proofs.journal_laws.ends_are_noted.Goals as goal

pub returns : goal.returns
returns c = end_noted
