-- A round whose lanes' notes went behind other notes.
use Rattle.std.specs.Prelude.{◌≡◌, ℕ, ◌≤◌, List, ◌++◌, length, map}
use Rattle.pipe_ops.specs.declared.sink.Sink.{Ghosts as SinkWords}
use Rattle.pipe_chain.specs.declared.operator.Operator.{Ghosts as OperatorWords}
use Rattle.pipe_run.specs.Claimed.{Lot}
use Rattle.pipe_run.specs.Dealt.{Dealt}
use Rattle.pipe_run.specs.declared.entry.Entry.{Entry}
use Rattle.pipe_run.specs.declared.lane.Lane.{Lane}
use Rattle.pipe_run.specs.declared.note.Note.{Note}
use Rattle.pipe_run.specs.Notes.{entries_in, notes_from, AllKept, AreNoted}

-- lanes of so many workers at most noted what they claimed below a count, behind other notes
pub record IsNotedSince (workers count : ℕ) (entries : ℕ → List Entry) (old new : List Note) : Type 0
  where
    pub lanes : List (List Entry)
    pub whole : new ≡ old ++ notes_from 0 lanes
    pub few : length lanes ≤ workers
    pub noted : AreNoted count entries lanes

-- each chunk or partition was taken by one lane, once: the lane that noted it, in which it went through
-- the operators; and what lanes noted went behind other notes
pub record DealtNoted {O S K B C : Type 0} (op : OperatorWords O S) (sink : SinkWords K B C)
    (ss : List S) (limit : ℕ) (lot : Lot) (old new : List (Lane O K)) (old_notes new_notes : List Note) :
    Type 0 where
  pub mid : List (Lane O K)
  pub dealt : Dealt op sink ss limit lot old mid
  pub kept : AllKept mid new
  pub noted : new_notes ≡ old_notes ++ notes_from 0 (map entries_in mid)
