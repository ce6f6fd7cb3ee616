use Rattle.std.proofs.Common.{◌≡◌, map, take}
use Rattle.std.specs.List.{flat_map}
use Rattle.pipe_expr.specs.Formula.{formula_of}
use Rattle.pipe_expr.specs.Types.{columns_in}
use Rattle.pipe_plain.proofs.names.columns_of_exprs.Given as goal

abbrev pub invariant-loop-expr : goal.invariant-loop-expr
invariant-loop-expr l = l.names ≡ flat_map columns_in (map formula_of (take l.expr-index l.exprs))
