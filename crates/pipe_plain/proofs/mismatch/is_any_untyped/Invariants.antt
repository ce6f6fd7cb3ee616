use Rattle.std.proofs.Common.{◌≡◌, map, drop}
use Rattle.std.specs.List.{list_any}
use Rattle.pipe_expr.specs.Formula.{formula_of}
use Rattle.pipe_plan.specs.Faults.{has_no_type}
use Rattle.pipe_plain.proofs.mismatch.is_any_untyped.Given as goal

abbrev pub invariant-loop-expr : goal.invariant-loop-expr
invariant-loop-expr l = list_any (has_no_type l.schema) (map formula_of (drop l.expr-index l.exprs)) ≡ list_any (has_no_type l.schema) (map formula_of l.exprs)
