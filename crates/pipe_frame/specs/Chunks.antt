-- Chunks: frames with their places in a run.
use Rattle.std.specs.Prelude.{◌≡◌, ℕ, List, Some, slice_get}
use Rattle.std.specs.List.{flat_map}
use Rattle.pipe_frame.specs.Frame.{Table}
use Rattle.pipe_schema.specs.Rows.{Row}
use Rattle.pipe_frame.specs.declared.chunk.DataChunk.{DataChunk}
use Rattle.pipe_schema.specs.declared.field.Field.{Field}

-- the rows of a chunk
abbrev pub chunk_rows : DataChunk → List Row
chunk_rows chunk = chunk.frame.rows

-- the rows of chunks, in order, as one frame of a schema
abbrev pub chunks_table : List Field → List DataChunk → Table
chunks_table schema chunks = record { schema = schema; rows = flat_map chunk_rows chunks }

-- a chunk has this schema
abbrev pub HasSchema : List Field → DataChunk → Type 0
HasSchema schema chunk = chunk.frame.schema ≡ schema

-- a chunk has this field at a place of its schema
abbrev pub HasFieldAt : ℕ → Field → DataChunk → Type 0
HasFieldAt k field chunk = slice_get chunk.frame.schema k ≡ Some field
