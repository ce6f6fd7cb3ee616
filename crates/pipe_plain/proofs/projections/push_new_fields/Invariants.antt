use Rattle.std.proofs.Common.{◌≡◌, ◌++◌, map, filter, take}
use Rattle.pipe_expr.specs.Formula.{named_formula_of}
use Rattle.pipe_expr.specs.Projections.{expr_field, is_new}
use Rattle.pipe_plain.proofs.projections.push_new_fields.Given as goal

abbrev pub invariant-loop-expr : goal.invariant-loop-expr
invariant-loop-expr l = l.fields ≡ l.initial.fields ++ map (expr_field l.schema) (filter (is_new l.schema) (map named_formula_of (take l.expr-index l.exprs)))
