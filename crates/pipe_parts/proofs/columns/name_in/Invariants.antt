use Rattle.std.proofs.Common.{◌≡◌, drop}
use Rattle.pipe_schema.specs.Schema.{has_name, names_of}
use Rattle.pipe_parts.specs.Wishes.{name_if}
use Rattle.pipe_parts.proofs.columns.name_in.Given as goal

abbrev pub invariant-loop-field : goal.invariant-loop-field
invariant-loop-field l = name_if (has_name (names_of (drop l.field-index l.field-items)) l.name) l.name ≡ name_if (has_name (names_of l.field-items) l.name) l.name
