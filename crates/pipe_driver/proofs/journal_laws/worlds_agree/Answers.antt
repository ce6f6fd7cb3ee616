use Rattle.pipe_driver.proofs.Agreeing.{worlds}
use Rattle.pipe_driver.proofs.journal_laws.worlds_agree.Goals as goal

pub returns : goal.returns
returns c = worlds
