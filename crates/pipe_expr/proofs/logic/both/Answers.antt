use Rattle.pipe_expr.proofs.LogicCells.{both-cells}
use Rattle.pipe_expr.proofs.logic.both.Goals as goal

pub returns-clause-cells : goal.returns-clause-cells
returns-clause-cells c = both-cells c.in_ok-zip_into.ensures.cells
