use Rattle.std.proofs.Common.{◌≡◌, map, take}
use Rattle.pipe_expr.specs.Formula.{named_formula_of}
use Rattle.pipe_expr.specs.Projections.{hstack_row}
use Rattle.pipe_plain.proofs.node_rows.stacked_rows.Given as goal

abbrev pub invariant-loop-row : goal.invariant-loop-row
invariant-loop-row l = l.made ≡ map (hstack_row l.schema (map named_formula_of l.exprs)) (take l.row-index l.rows)
