use Rattle.std.proofs.Common.{drop, map, ◌≡◌}
use Rattle.pipe_plan.specs.Faults.{expr_columns}
use Rattle.pipe_schema.specs.Schema.{first_unknown}
use Rattle.std.specs.List.{flat_map}
use Rattle.pipe_expr.specs.Formula.{named_formula_of}
use Rattle.pipe_check.proofs.unknown_column.unknown_in_named.Given as goal

abbrev pub invariant-loop-expr : goal.invariant-loop-expr
invariant-loop-expr l = first_unknown l.columns (flat_map expr_columns (map named_formula_of (drop l.expr-index l.exprs))) ≡ first_unknown l.columns (flat_map expr_columns (map named_formula_of l.exprs))
