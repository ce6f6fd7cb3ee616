use Rattle.pipe_expr.specs.Types.{columns_in}
use Rattle.std.proofs.Common.{drop, map, ◌≡◌}
use Rattle.pipe_schema.specs.Schema.{first_unknown}
use Rattle.std.specs.List.{flat_map}
use Rattle.pipe_expr.specs.Formula.{formula_of}
use Rattle.pipe_check.proofs.unknown_column.unknown_in_exprs.Given as goal

abbrev pub invariant-loop-expr : goal.invariant-loop-expr
invariant-loop-expr l = first_unknown l.columns (flat_map columns_in (map formula_of (drop l.expr-index l.exprs))) ≡ first_unknown l.columns (flat_map columns_in (map formula_of l.exprs))
