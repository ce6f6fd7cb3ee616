use Rattle.std.proofs.Common.{map, take, ◌≡◌}
use Rattle.pipe_expr.specs.Formula.{named_formula_of}
use Rattle.pipe_expr.specs.Projections.{expr_name}
use Rattle.pipe_optimize.proofs.outputs.expr_names.Given as goal

abbrev pub invariant-loop-expr : goal.invariant-loop-expr
invariant-loop-expr l = l.names ≡ map expr_name (map named_formula_of (take l.expr-index l.exprs))
