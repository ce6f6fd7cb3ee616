use Rattle.std.proofs.Common.{◌≡◌, drop}
use Rattle.pipe_schema.specs.Schema.{has_name}
use Rattle.pipe_parts.specs.Wishes.{name_if}
use Rattle.pipe_parts.proofs.columns.name_among.Given as goal

abbrev pub invariant-loop-other : goal.invariant-loop-other
invariant-loop-other l = name_if (has_name (drop l.other-index l.names) l.name) l.name ≡ name_if (has_name l.names l.name) l.name
