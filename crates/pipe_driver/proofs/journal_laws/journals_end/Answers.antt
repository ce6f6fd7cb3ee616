use Rattle.pipe_driver.proofs.AllRun.{whole}
use Rattle.pipe_driver.proofs.journal_laws.journals_end.Goals as goal

pub returns : goal.returns
returns c = whole
