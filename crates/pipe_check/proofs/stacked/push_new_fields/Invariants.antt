use Rattle.pipe_expr.specs.Projections.{expr_field, is_new}
use Rattle.std.proofs.Common.{filter, map, take, ◌≡◌, ◌++◌}
use Rattle.pipe_expr.specs.Formula.{named_formula_of}
use Rattle.pipe_check.proofs.stacked.push_new_fields.Given as goal

abbrev pub invariant-loop-expr : goal.invariant-loop-expr
invariant-loop-expr l = l.fields ≡ l.initial.fields ++ map (expr_field l.columns) (filter (is_new l.columns) (map named_formula_of (take l.expr-index l.exprs)))
