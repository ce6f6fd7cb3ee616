use Rattle.std.proofs.Common.{◌≡◌, map, take}
use Rattle.pipe_expr.specs.Projections.{renamed_field}
use Rattle.pipe_plain.proofs.projections.renamed_fields.Given as goal

abbrev pub invariant-loop-field : goal.invariant-loop-field
invariant-loop-field l = l.fields ≡ map (renamed_field l.pairs) (take l.field-index l.schema)
