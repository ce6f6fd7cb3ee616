use Rattle.std.proofs.Common.{◌≡◌, map, take}
use Rattle.pipe_expr.specs.Formula.{named_formula_of}
use Rattle.pipe_expr.specs.Projections.{stacked_field}
use Rattle.pipe_plain.proofs.projections.stacked_fields.Given as goal

abbrev pub invariant-loop-field : goal.invariant-loop-field
invariant-loop-field l = l.fields ≡ map (stacked_field l.schema (map named_formula_of l.exprs)) (take l.field-index l.schema)
