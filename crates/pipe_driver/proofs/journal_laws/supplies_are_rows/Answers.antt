use Rattle.pipe_driver.proofs.Supplies.{supplied}
use Rattle.pipe_driver.proofs.journal_laws.supplies_are_rows.Goals as goal

pub returns : goal.returns
returns c = supplied
