use Rattle.std.proofs.Common.{drop, map, ◌≡◌}
use Rattle.pipe_plan.specs.Faults.{is_named_untyped}
use Rattle.std.specs.List.{list_any}
use Rattle.pipe_expr.specs.Formula.{named_formula_of}
use Rattle.pipe_check.proofs.type_mismatch.is_any_named_untyped.Given as goal

abbrev pub invariant-loop-expr : goal.invariant-loop-expr
invariant-loop-expr l = list_any (is_named_untyped l.columns) (map named_formula_of (drop l.expr-index l.exprs)) ≡ list_any (is_named_untyped l.columns) (map named_formula_of l.exprs)
