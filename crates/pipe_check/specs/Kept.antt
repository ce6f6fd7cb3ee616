-- Schemas that are kept for the nodes of a plan, by the nodes' numbers.
use Rattle.std.specs.Prelude.{ℕ, List, [], Option, None, slice_index_or, unwrap_or}
use Rattle.pipe_schema.specs.declared.field.Field.{Field}

-- the fields that are kept for a node, none where none are kept
abbrev pub kept_schema : List (Option (List Field)) → ℕ → List Field
kept_schema schemas n = unwrap_or (slice_index_or schemas n None) []
