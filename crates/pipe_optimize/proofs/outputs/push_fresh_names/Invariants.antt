use Rattle.std.proofs.Common.{filter, map, take, ◌≡◌, ◌++◌}
use Rattle.pipe_expr.specs.Formula.{named_formula_of}
use Rattle.pipe_expr.specs.Projections.{expr_name}
use Rattle.pipe_optimize.specs.Sides.{is_fresh}
use Rattle.pipe_optimize.proofs.outputs.push_fresh_names.Given as goal

abbrev pub invariant-loop-expr : goal.invariant-loop-expr
invariant-loop-expr l = l.names ≡ l.initial.names ++ map expr_name (filter (is_fresh l.among) (map named_formula_of (take l.expr-index l.exprs)))
