-- What a function operator has begun, and what a call makes of it.
use Rattle.std.specs.Prelude.{◌≡◌, ℕ, List, length}
use Rattle.pipe_frame.specs.declared.chunk.DataChunk.{DataChunk}
use Rattle.pipe_ops.specs.declared.operator.OperatorResult.{OperatorResult}
use Rattle.pipe_ops.specs.declared.operator.OperatorResult.TheVariants.{NeedsNewData, HaveMoreOutPut, Finished}
use Rattle.pipe_source.specs.Turns.{Turn, turn_of, begun_of}
use Rattle.pipe_source.specs.declared.function.FunctionOperator.{FunctionOperator}

-- the pieces that are left of a chunk that is begun, none where nothing is
abbrev pub pieces_of : FunctionOperator → List (ℕ × ℕ)
pieces_of op = op.cutting.pieces.items

-- the call for a chunk
abbrev pub turn_for : FunctionOperator → DataChunk → Turn
turn_for op chunk =
    turn_of op.function op.workers op.cutting.size chunk (begun_of op.function op.cutting.size (length chunk.frame.rows) (pieces_of op))

-- a call answers with a piece, and never asks for another chunk
abbrev pub IsPiece : OperatorResult → Type 0
IsPiece NeedsNewData = ⊥
IsPiece (HaveMoreOutPut piece) = Unit {0}
IsPiece (Finished piece) = Unit {0}

-- what an operator answers for a chunk
pub record AnswersFor (op : FunctionOperator) (chunk : DataChunk) (answer : OperatorResult) : Type 0 where
  pub some : IsPiece answer
  pub turn : answer ≡ (turn_for op chunk).answer

-- an operator answers as a call does, and stands afterwards as it leaves it
pub record Turns (turn : Turn) (new : FunctionOperator) (answer : OperatorResult) : Type 0 where
  pub answer_is : answer ≡ turn.answer
  pub size_is : new.cutting.size ≡ turn.size
  pub left_is : pieces_of new ≡ turn.left
