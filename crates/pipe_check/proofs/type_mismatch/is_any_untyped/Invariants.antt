use Rattle.std.proofs.Common.{drop, map, ◌≡◌}
use Rattle.pipe_expr.specs.Formula.{formula_of}
use Rattle.pipe_plan.specs.Faults.{has_no_type}
use Rattle.std.specs.List.{list_any}
use Rattle.pipe_check.proofs.type_mismatch.is_any_untyped.Given as goal

abbrev pub invariant-loop-expr : goal.invariant-loop-expr
invariant-loop-expr l = list_any (has_no_type l.columns) (map formula_of (drop l.expr-index l.exprs)) ≡ list_any (has_no_type l.columns) (map formula_of l.exprs)
