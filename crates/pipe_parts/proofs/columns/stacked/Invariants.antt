use Rattle.std.proofs.Common.{◌≡◌, map, drop}
use Rattle.pipe_expr.specs.Formula.{named_formula_of}
use Rattle.pipe_expr.specs.Projections.{expr_named}
use Rattle.pipe_parts.specs.Wishes.{stacked_below}
use Rattle.pipe_parts.proofs.columns.stacked.Given as goal

abbrev pub invariant-loop-named : goal.invariant-loop-named
invariant-loop-named l = stacked_below l.name (expr_named (map named_formula_of (drop l.named-index l.exprs)) l.name) ≡ stacked_below l.name (expr_named (map named_formula_of l.exprs) l.name)
