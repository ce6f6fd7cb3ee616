use Rattle.pipe_expr.specs.Joins.{column_names}
use Rattle.pipe_expr.specs.Formula.{formula_of}
use Rattle.std.proofs.Common.{map, take, ◌≡◌}
use Rattle.pipe_check.proofs.joined.plain_names.Given as goal

abbrev pub invariant-loop-expr : goal.invariant-loop-expr
invariant-loop-expr l = l.names ≡ column_names (map formula_of (take l.expr-index l.exprs))
