use Rattle.pipe_driver.proofs.PlanBoards.{journals_start}
use Rattle.pipe_driver.proofs.journal_laws.journals_start.Goals as goal

pub returns : goal.returns
returns c = journals_start
