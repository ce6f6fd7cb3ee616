use Rattle.std.proofs.Common.{◌≡◌, ◌++◌, map, filter, take}
use Rattle.pipe_expr.specs.Formula.{named_formula_of}
use Rattle.pipe_expr.specs.Projections.{expr_cell, is_new}
use Rattle.pipe_plain.proofs.projections.push_new_cells.Given as goal

abbrev pub invariant-loop-expr : goal.invariant-loop-expr
invariant-loop-expr l = l.cells ≡ l.initial.cells ++ map (expr_cell l.schema l.row) (filter (is_new l.schema) (map named_formula_of (take l.expr-index l.exprs)))
