-- One answer of an operator: what it owed before, what it gave and marked, and what it owes still.
use Rattle.std.specs.Prelude.{◌≡◌, ℕ, ◌<◌, List, [], ◌++◌, length, true}
use Rattle.std.specs.List.{flat_map}
use Rattle.pipe_frame.specs.Frame.{Table}
use Rattle.pipe_schema.specs.Rows.{Row, Same}
use Rattle.pipe_frame.specs.declared.chunk.DataChunk.{DataChunk}
use Rattle.pipe_ops.specs.Pieces.{is_more}
use Rattle.pipe_ops.specs.declared.operator.OperatorResult.{OperatorResult}
use Rattle.pipe_ops.specs.declared.operator.OperatorResult.TheVariants.{NeedsNewData, HaveMoreOutPut, Finished}
use Rattle.pipe_chain.specs.Keys.{SameKeys, WithinKeys}
use Rattle.pipe_chain.specs.Flow.{Work, Acts, Grown, Few}

-- what is owed for a chunk: rows that are still to be given, and keys that are still to be marked
pub record Owed : Type 0 where
  pub rows : List Row
  pub keys : List ℕ

abbrev pub no_debt : Owed
no_debt = record { rows = []; keys = [] }

-- the rows of an answer
abbrev pub rows_of : OperatorResult → List Row
rows_of NeedsNewData = []
rows_of (HaveMoreOutPut piece) = piece.frame.rows
rows_of (Finished piece) = piece.frame.rows

-- what is owed after an answer: nothing, unless more is to come
abbrev pub left_of : OperatorResult → Owed → Owed
left_of NeedsNewData owed = no_debt
left_of (HaveMoreOutPut piece) owed = owed
left_of (Finished piece) owed = no_debt

-- an answer pays some of what is owed; a key that is won is one that is marked, and its rows are
-- owed besides
pub record Executed (w : Work) (old new : Acts) (before after' : Owed) (r : OperatorResult) :
    Type 0 where
  pub more : Acts
  pub grown : Grown old new more
  pub few : Few more
  pub keys : SameKeys (more.marked ++ (left_of r after').keys) before.keys
  pub rows : Same (rows_of r ++ (left_of r after').rows)
      (before.rows ++ flat_map w.gains more.won)
  pub some : is_more r ≡ true → 0 < length (rows_of r)

-- an answer for a chunk
abbrev pub Pays : {S : Type 0} → (work : S → Work) → (old new : Acts) →
    (before after' : S → Table → Owed) → S → DataChunk → OperatorResult → Type 0
Pays work old new before after' shared chunk answer =
    Executed (work shared) old new (before shared chunk.frame) (after' shared chunk.frame) answer

-- a seat marked some of the keys that were owed
pub record MarksSome (old new : Acts) (keys : List ℕ) : Type 0 where
  pub more : Acts
  pub grown : Grown old new more
  pub few : Few more
  pub some : WithinKeys more.marked keys
