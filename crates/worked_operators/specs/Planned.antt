-- The chunk that a scan gives.
use Rattle.std.specs.Prelude.{◌≡◌, ◌≤◌, List, Option, Some, None, length}
use Rattle.pipe_frame.specs.declared.chunk.DataChunk.{DataChunk}
use Rattle.pipe_schema.specs.declared.field.Field.{Field}

-- a chunk has a schema, and few enough rows to be numbered
abbrev pub IsChunkOrNone : List Field → Option DataChunk → Type 0
IsChunkOrNone schema None = Unit {0}
IsChunkOrNone schema (Some chunk) = (chunk.frame.schema ≡ schema) × (length chunk.frame.rows ≤ 4294967294)
