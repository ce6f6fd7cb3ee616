use Rattle.std.proofs.Common.{◌≡◌, map, drop}
use Rattle.std.specs.List.{list_all}
use Rattle.pipe_expr.specs.Formula.{formula_of}
use Rattle.pipe_plan.specs.Faults.{is_column}
use Rattle.pipe_parts.proofs.keys.are_plain.Given as goal

abbrev pub invariant-loop-expr : goal.invariant-loop-expr
invariant-loop-expr l = list_all is_column (map formula_of (drop l.expr-index l.exprs)) ≡ list_all is_column (map formula_of l.exprs)
