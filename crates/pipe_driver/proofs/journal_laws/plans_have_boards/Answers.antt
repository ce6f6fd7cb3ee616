use Rattle.pipe_driver.proofs.PlanBoards.{boards}
use Rattle.pipe_driver.proofs.journal_laws.plans_have_boards.Goals as goal

pub returns : goal.returns
returns c = boards
