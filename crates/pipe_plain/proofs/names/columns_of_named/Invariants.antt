use Rattle.std.proofs.Common.{◌≡◌, map, take}
use Rattle.std.specs.List.{flat_map}
use Rattle.pipe_expr.specs.Formula.{named_formula_of}
use Rattle.pipe_plan.specs.Faults.{expr_columns}
use Rattle.pipe_plain.proofs.names.columns_of_named.Given as goal

abbrev pub invariant-loop-expr : goal.invariant-loop-expr
invariant-loop-expr l = l.names ≡ flat_map expr_columns (map named_formula_of (take l.expr-index l.exprs))
