use Rattle.std.proofs.Common.{map, take, ◌≡◌}
use Rattle.pipe_expr.specs.Formula.{named_formula_of}
use Rattle.pipe_expr.specs.Projections.{stacked_field}
use Rattle.pipe_check.proofs.stacked.replaced_fields.Given as goal

abbrev pub invariant-loop-field : goal.invariant-loop-field
invariant-loop-field l = l.made ≡ map (stacked_field l.columns (map named_formula_of l.exprs)) (take l.field-index l.columns)
