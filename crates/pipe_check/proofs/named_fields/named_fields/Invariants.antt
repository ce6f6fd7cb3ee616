use Rattle.pipe_expr.specs.Projections.{field_named}
use Rattle.std.proofs.Common.{map, take, ◌≡◌}
use Rattle.pipe_check.proofs.named_fields.named_fields.Given as goal

abbrev pub invariant-loop-name : goal.invariant-loop-name
invariant-loop-name l = l.fields ≡ map (field_named l.columns) (take l.name-index l.names)
