-- One call of a function operator: the piece that comes, and how the chunk is cut afterwards.
use Rattle.std.specs.Prelude.{◌≡◌, ℕ, Bool, true, false, List, [], ◌∷◌, length, drop}
use Rattle.std.specs.List.{flat_map}
use Rattle.pipe_frame.specs.Frame.{Table, sliced}
use Rattle.pipe_schema.specs.Rows.{Row}
use Rattle.pipe_frame.specs.declared.chunk.DataChunk.{DataChunk}
use Rattle.pipe_expr.specs.Projections.{function_rows}
use Rattle.pipe_expr.specs.declared.join_words.FunctionIR.{FunctionIR}
use Rattle.pipe_expr.specs.declared.join_words.FunctionIR.TheVariants as function
use Rattle.pipe_ops.specs.ChunkSizes.{chunk_size}
use Rattle.pipe_ops.specs.Offsets.{Covers}
use Rattle.pipe_ops.specs.declared.operator.OperatorResult.{OperatorResult}
use Rattle.pipe_ops.specs.declared.operator.OperatorResult.TheVariants.{HaveMoreOutPut, Finished}
use Rattle.pipe_source.specs.Applied.{applied}
use Rattle.pipe_source.specs.Cutting.{begun_pieces, next_size, next_pieces}

-- whether a function is an unpivot
abbrev pub is_unpivot : FunctionIR → Bool
is_unpivot (function.Unpivot on index variable value) = true
is_unpivot (function.Rename pairs) = false

-- where the first piece that is left begins
abbrev pub start_of : List (ℕ × ℕ) → ℕ
start_of [] = 0
start_of (p ∷ ps) = p.0

-- the rows that a function makes of what is left of a frame
abbrev pub owed_of : FunctionIR → List (ℕ × ℕ) → Table → List Row
owed_of f pieces frame = flat_map (function_rows f frame.schema) (drop (start_of pieces) frame.rows)

-- the pieces that are left of a chunk go up to its end
abbrev pub FitsHeight : List (ℕ × ℕ) → (height : ℕ) → Type 0
FitsHeight [] height = Unit {0}
FitsHeight (p ∷ ps) height = Covers p.0 (p ∷ ps) height

abbrev pub Fits : FunctionIR → List (ℕ × ℕ) → (height : ℕ) → Type 0
Fits (function.Unpivot on index variable value) pieces height = FitsHeight pieces height
Fits (function.Rename pairs) pieces height = pieces ≡ []

-- the pieces of a chunk that is begun now, if it wasn't; none where it is taken whole, as a renaming takes it
abbrev pub begun_of : FunctionIR → (size height : ℕ) → List (ℕ × ℕ) → List (ℕ × ℕ)
begun_of (function.Unpivot on index variable value) size height pieces =
    begun_pieces size height pieces
begun_of (function.Rename pairs) size height pieces = []

-- what a call answers, and how the chunk is cut afterwards
pub record Turn : Type 0 where
  pub answer : OperatorResult
  pub size : ℕ
  pub left : List (ℕ × ℕ)

-- a piece is the last where no other is left
abbrev pub answer_with : List (ℕ × ℕ) → DataChunk → OperatorResult
answer_with [] piece = Finished piece
answer_with (p ∷ ps) piece = HaveMoreOutPut piece

-- what a function makes of a part of a chunk, under the chunk's index
abbrev pub applied_chunk : FunctionIR → DataChunk → Table → DataChunk
applied_chunk f chunk part = record { chunk_index = chunk.chunk_index; frame = applied f part }

-- the part of a chunk that a piece stands for, and how many rows it makes
abbrev pub part_of_piece : DataChunk → ℕ × ℕ → Table
part_of_piece chunk p = sliced p.0 p.1 chunk.frame

abbrev pub made_by : FunctionIR → DataChunk → ℕ × ℕ → ℕ
made_by f chunk p = length (applied f (part_of_piece chunk p)).rows

-- how many rows a piece should make
abbrev pub aim_of : (workers : ℕ) → DataChunk → ℕ
aim_of workers chunk = chunk_size (length chunk.frame.schema) workers

-- the pieces that are left after a piece, and the size of pieces
abbrev pub left_after : FunctionIR → (workers : ℕ) → DataChunk → ℕ × ℕ → List (ℕ × ℕ) → List (ℕ × ℕ)
left_after f workers chunk p left =
    next_pieces (made_by f chunk p) (length chunk.frame.rows) (aim_of workers chunk) left

abbrev pub size_after : FunctionIR → (workers size : ℕ) → DataChunk → ℕ × ℕ → ℕ
size_after f workers size chunk p =
    next_size size (made_by f chunk p) (length chunk.frame.rows) (aim_of workers chunk)

-- a call for a chunk of which these pieces are left, at a size
abbrev pub turn_of : FunctionIR → (workers size : ℕ) → DataChunk → List (ℕ × ℕ) → Turn
turn_of f workers size chunk [] = record {
  answer = Finished (applied_chunk f chunk chunk.frame);
  size = size;
  left = [];
}
turn_of f workers size chunk (p ∷ ps) = record {
  answer = answer_with (left_after f workers chunk p ps) (applied_chunk f chunk (part_of_piece chunk p));
  size = size_after f workers size chunk p;
  left = left_after f workers chunk p ps;
}
