use Rattle.pipe_expr.proofs.LogicCells.{opposite-cells}
use Rattle.pipe_expr.proofs.logic.negated.Goals as goal

pub returns-clause-cells : goal.returns-clause-cells
returns-clause-cells c = opposite-cells c.args.rows c.args.inner c.requires.sized c.in_ok-zip_into.ensures.cells
