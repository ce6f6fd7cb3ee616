-- Chunks whose rows stand one behind the other.
use Rattle.std.specs.Prelude.{◌≡◌, ℕ, ◌≤◌, List, [], ◌∷◌, All, length, take, drop}
use Rattle.std.specs.List.{flat_map, sum_by}
use Rattle.std.specs.List.Sorted.{IsNonDecreasingBy}
use Rattle.pipe_schema.specs.Rows.{Row}
use Rattle.pipe_frame.specs.declared.chunk.DataChunk.{DataChunk}
use Rattle.pipe_schema.specs.declared.field.Field.{Field}
use Rattle.pipe_source.specs.Ordered.{index_in}
use Rattle.pipe_source.specs.declared.chunk_run.Piece.{Piece}

-- a run of chunks as its reader sees it: their schema, the index of the last, and the chunks
pub record Run : Type 0 where
  pub schema : List Field
  pub last : ℕ
  pub chunks : List DataChunk

abbrev pub height_in : Piece → ℕ
height_in piece = piece.height

-- rows cut into chunks, of which each has so many from the front
abbrev pub cut_rows : List Field → List Row → List Piece → List DataChunk
cut_rows schema rows [] = []
cut_rows schema rows (piece ∷ pieces) =
    record { chunk_index = piece.chunk_index; frame = record { schema = schema; rows = take piece.height rows } }
    ∷ cut_rows schema (drop piece.height rows) pieces

abbrev pub run_of : DataChunk → List Piece → Run
run_of all pieces = record { schema = all.frame.schema; last = all.chunk_index; chunks = cut_rows all.frame.schema all.frame.rows pieces }

-- a chunk's index is no higher
abbrev pub IsUpTo : ℕ → DataChunk → Type 0
IsUpTo last chunk = chunk.chunk_index ≤ last

-- a chunk's index is no lower
abbrev pub IsFrom : ℕ → DataChunk → Type 0
IsFrom first chunk = first ≤ chunk.chunk_index

-- the first of some pieces, if there is one, has no lower index
abbrev pub BeginsFrom : ℕ → List Piece → Type 0
BeginsFrom first [] = Unit {0}
BeginsFrom first (piece ∷ pieces) = first ≤ piece.chunk_index

-- pieces that are all rows of a frame, and whose indexes don't fall and end with the frame's
pub record IsRun (all : DataChunk) (pieces : List Piece) : Type 0 where
  pub whole : sum_by height_in pieces ≡ length all.frame.rows
  pub rises : IsNonDecreasingBy index_in (cut_rows all.frame.schema all.frame.rows pieces)
  pub below : All (IsUpTo all.chunk_index) (cut_rows all.frame.schema all.frame.rows pieces)

-- a run has this schema
abbrev pub HasRunSchema : List Field → Run → Type 0
HasRunSchema schema run = run.schema ≡ schema

abbrev pub chunks_in : Run → List DataChunk
chunks_in run = run.chunks

-- the chunks of runs, in order
abbrev pub chunks_of : List Run → List DataChunk
chunks_of runs = flat_map chunks_in runs
