use Rattle.pipe_expr.specs.Projections.{expr_field}
use Rattle.std.proofs.Common.{map, take, ◌≡◌}
use Rattle.pipe_expr.specs.Formula.{named_formula_of}
use Rattle.pipe_check.proofs.named_fields.selected_fields.Given as goal

abbrev pub invariant-loop-expr : goal.invariant-loop-expr
invariant-loop-expr l = l.fields ≡ map (expr_field l.columns) (map named_formula_of (take l.expr-index l.exprs))
