use Rattle.std.proofs.Common.{◌≡◌, map, drop}
use Rattle.pipe_expr.specs.Formula.{named_formula_of}
use Rattle.pipe_rules.specs.Placing.{plain_column}
use Rattle.pipe_parts.proofs.columns.plain.Given as goal

abbrev pub invariant-loop-named : goal.invariant-loop-named
invariant-loop-named l = plain_column (map named_formula_of (drop l.named-index l.exprs)) l.name ≡ plain_column (map named_formula_of l.exprs) l.name
