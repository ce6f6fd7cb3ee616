-- Rounds one after another, until a source is out.
use Rattle.std.specs.Prelude.{◌≡◌, ℕ, ◌+◌, ◌*◌, ◌≤◌, List, [], ◌∷◌, length}
use Rattle.std.specs.List.{AllByRecursion, flat_map}
use Rattle.pipe_schema.specs.Counts.{Counts}
use Rattle.pipe_schema.specs.Rows.{Row}
use Rattle.pipe_schema.specs.declared.field.Field.{Field}
use Rattle.pipe_ops.specs.Batches.{Left}
use Rattle.pipe_ops.specs.declared.context.PExecutionContext.{PExecutionContext}
use Rattle.pipe_chain.specs.declared.operator.Operator.{Ghosts as OperatorWords}
use Rattle.pipe_ops.specs.declared.sink.Sink.{Ghosts as SinkWords}
use Rattle.pipe_ops.specs.declared.source.Morsel.{Morsel}
use Rattle.pipe_run.specs.declared.halt.Halt.{Halt}
use Rattle.pipe_run.specs.declared.halt.Halt.TheVariants.{Stopped, Refused}
use Rattle.pipe_run.specs.declared.lane.Lane.{Lane}
use Rattle.pipe_run.specs.Claimed.{chunks_lot}
use Rattle.pipe_run.specs.Dealt.{rows_of_all, TellsFirst, IsOverIn}
use Rattle.pipe_run.specs.declared.note.Note.{Note}
use Rattle.pipe_run.specs.Noted.{DealtNoted}
use Rattle.pipe_run.specs.NotedRounds.{Gives, AreNotedBehind}

-- the rows that are left of a source, all of them, and those of a frame
abbrev pub rows_left : Left → List Row
rows_left l = l.rows

abbrev pub left_rows : List Left → List Row
left_rows left = flat_map rows_left left

-- the schema of the first frame, and that a frame has a schema
abbrev pub schema_left : List Left → List Field
schema_left [] = []
schema_left (l ∷ left) = l.schema

abbrev pub IsLeftOf : List Field → Left → Type 0
IsLeftOf schema l = l.schema ≡ schema

-- the index after some batches
abbrev pub index_past : ℕ → List (List Morsel) → ℕ
index_past index [] = index
index_past index (ms ∷ rounds) = index_past (index + length ms) rounds

-- rounds over some batches, one after another, with what lanes noted of them
abbrev pub AllDealt : {O S K B C : Type 0} → OperatorWords O S → SinkWords K B C → List S → ℕ →
    List (List Morsel) → (old new : List (Lane O K)) → (old_notes new_notes : List Note) → Type 0
AllDealt op sink ss limit [] old new old_notes new_notes =
    (new ≡ old) × (new_notes ≡ old_notes)
AllDealt {O = O} {K = K} op sink ss limit (ms ∷ rounds) old new old_notes new_notes =
    (mid : List (Lane O K)) × (notes : List Note)
    × DealtNoted op sink ss limit (chunks_lot ms) old mid old_notes notes
    × AllDealt op sink ss limit rounds mid new notes new_notes

-- a batch has at most so many rows
abbrev pub IsFew : ℕ → List Morsel → Type 0
IsFew most ms = length (rows_of_all ms) ≤ most

-- what a source gave went to the lanes round by round, which noted it, and each round was asked for, so
-- that only so many rows are taken between two questions
pub record Rounds {O S K B C : Type 0} (op : OperatorWords O S) (sink : SinkWords K B C)
    (ss : List S) (context : PExecutionContext) (index_old index_new : ℕ) (left_old left_new : List Left)
    (asked_old asked_new : ℕ) (old new : List (Lane O K)) (old_notes new_notes : List Note) : Type 0
  where
    pub batches : List (List Morsel)
    pub gave : Gives (4 * context.workers) context.chunk_rows index_old batches left_old left_new
    pub index : index_new ≡ index_past index_old batches
    pub dealt : AllDealt op sink ss context.row_limit batches old new old_notes new_notes
    pub noted : AreNotedBehind (length old) batches old_notes new_notes
    pub asked : Counts (length batches) asked_old asked_new
    pub few : AllByRecursion (IsFew (4 * context.workers * context.chunk_rows)) batches

-- what a source gave before the stop check said yes went to the lanes round by round, one question
-- before each, and one question more was asked
pub record RoundsBefore {O S K B C : Type 0} (op : OperatorWords O S) (sink : SinkWords K B C)
    (ss : List S) (context : PExecutionContext) (index_old : ℕ) (left_old : List Left)
    (asked_old asked_new : ℕ) (old new : List (Lane O K)) (old_notes new_notes : List Note) : Type 0
  where
    pub left : List Left
    pub batches : List (List Morsel)
    pub gave : Gives (4 * context.workers) context.chunk_rows index_old batches left_old left
    pub dealt : AllDealt op sink ss context.row_limit batches old new old_notes new_notes
    pub noted : AreNotedBehind (length old) batches old_notes new_notes
    pub asked : Counts (length batches + 1) asked_old asked_new

-- what a refusal says, where there is one
abbrev pub TellsHalt : {O K : Type 0} → List (Lane O K) → Halt → Type 0
TellsHalt lanes Stopped = Unit {0}
TellsHalt lanes (Refused r) = TellsFirst lanes r

abbrev pub IsHaltOver : {O S K : Type 0} → OperatorWords O S → List S → ℕ → List Field →
    List Row → (old new : List (Lane O K)) → Halt → Type 0
IsHaltOver op ss limit from rows old new Stopped = Unit {0}
IsHaltOver op ss limit from rows old new (Refused r) = IsOverIn op ss limit from rows old new r
