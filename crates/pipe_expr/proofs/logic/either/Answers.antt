use Rattle.pipe_expr.proofs.LogicCells.{either-cells}
use Rattle.pipe_expr.proofs.logic.either.Goals as goal

pub returns-clause-cells : goal.returns-clause-cells
returns-clause-cells c = either-cells c.in_ok-zip_into.ensures.cells
