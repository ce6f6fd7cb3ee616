use Rattle.std.proofs.Common.{◌≡◌, drop}
use Rattle.pipe_schema.specs.Schema.{has_name, names_of}
use Rattle.pipe_pairs.proofs.values.is_named.Given as goal

abbrev pub invariant-loop-field : goal.invariant-loop-field
invariant-loop-field l = has_name (names_of (drop l.field-index l.fields)) l.name ≡ has_name (names_of l.fields) l.name
