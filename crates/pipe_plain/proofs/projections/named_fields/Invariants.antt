use Rattle.std.proofs.Common.{◌≡◌, map, take}
use Rattle.pipe_expr.specs.Projections.{field_named}
use Rattle.pipe_plain.proofs.projections.named_fields.Given as goal

abbrev pub invariant-loop-name : goal.invariant-loop-name
invariant-loop-name l = l.fields ≡ map (field_named l.schema) (take l.name-index l.names)
