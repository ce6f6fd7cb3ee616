use Rattle.std.proofs.Common.{map, take, ◌≡◌}
use Rattle.pipe_expr.specs.Projections.{renamed_field}
use Rattle.pipe_check.proofs.function_fields.renamed_fields.Given as goal

abbrev pub invariant-loop-field : goal.invariant-loop-field
invariant-loop-field l = l.made ≡ map (renamed_field l.pairs) (take l.field-index l.fields)
