-- What an operator gives of the rows that it owes for a chunk: piece by piece.
use Rattle.std.specs.Prelude.{◌≡◌, ℕ, ◌<◌, List, [], ◌++◌, length, Bool, true, false}
use Rattle.std.specs.List.{flat_map}
use Rattle.pipe_frame.specs.Frame.{Table}
use Rattle.pipe_schema.specs.Rows.{Row, Same}
use Rattle.pipe_frame.specs.declared.chunk.DataChunk.{DataChunk}
use Rattle.pipe_schema.specs.declared.field.Field.{Field}
use Rattle.pipe_ops.specs.declared.operator.OperatorResult.{OperatorResult}
use Rattle.pipe_ops.specs.declared.operator.OperatorResult.TheVariants.{NeedsNewData, HaveMoreOutPut, Finished}

-- whether the call is to be made again
abbrev pub is_more : OperatorResult → Bool
is_more NeedsNewData = false
is_more (HaveMoreOutPut piece) = true
is_more (Finished piece) = false

-- a piece has a schema, and an index among the chunks
abbrev pub IsUnder : List Field → ℕ → DataChunk → Type 0
IsUnder schema index piece = (piece.frame.schema ≡ schema) × (piece.chunk_index ≡ index)

-- so has the piece of an answer, where it has one
abbrev pub AnswersUnder : List Field → ℕ → OperatorResult → Type 0
AnswersUnder schema index NeedsNewData = Unit {0}
AnswersUnder schema index (HaveMoreOutPut piece) = IsUnder schema index piece
AnswersUnder schema index (Finished piece) = IsUnder schema index piece

-- the piece of an answer has the chunk's index, and the schema that is made of the chunk's
abbrev pub IsPieceOf : (List Field → List Field) → DataChunk → OperatorResult → Type 0
IsPieceOf output chunk answer =
    AnswersUnder (output chunk.frame.schema) chunk.chunk_index answer

-- some rows are given, some are left, and together they are those that were owed
abbrev pub IsFirstOf : (owed given left : List Row) → Type 0
IsFirstOf owed given left = (0 < length given) × (0 < length left) × Same owed (given ++ left)

-- the rows of an answer, over those that were owed before it and those that are left after it
abbrev pub Pays : (owed left : List Row) → OperatorResult → Type 0
Pays owed left NeedsNewData = owed ≡ []
Pays owed left (HaveMoreOutPut piece) = IsFirstOf owed piece.frame.rows left
Pays owed left (Finished piece) = Same owed piece.frame.rows

-- a chunk is answered by one piece, which is all that is made of it
abbrev pub IsWhole : OperatorResult → Type 0
IsWhole NeedsNewData = ⊥
IsWhole (HaveMoreOutPut piece) = ⊥
IsWhole (Finished piece) = Unit {0}

-- the rows of an answer for a chunk
abbrev pub Gives : {S : Type 0} → (before after : S → Table → List Row) → S → DataChunk →
    OperatorResult → Type 0
Gives before after shared chunk answer =
    Pays (before shared chunk.frame) (after shared chunk.frame) answer

-- and those of an answer to a flush
abbrev pub Flushes : {S : Type 0} → (before after : S → List Row) → S → OperatorResult → Type 0
Flushes before after shared answer = Pays (before shared) (after shared) answer

-- the rows that become of a frame's rows, one by one
abbrev pub all_of : (Row → List Row) → Table → List Row
all_of each frame = flat_map each frame.rows
