use Rattle.std.proofs.Common.{◌≡◌, drop}
use Rattle.pipe_schema.specs.Schema.{has_name}
use Rattle.pipe_plain.proofs.names.is_among_names.Given as goal

abbrev pub invariant-loop-other : goal.invariant-loop-other
invariant-loop-other l = has_name (drop l.other-index l.names) l.name ≡ has_name l.names l.name
