use Rattle.pipe_driver.proofs.Closes.{closes}
use Rattle.pipe_driver.proofs.journal_laws.closes_are_noted.Goals as goal

pub returns : goal.returns
returns c = closes
