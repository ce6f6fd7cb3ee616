-- What lanes noted in a round, in one list; and the events of it.
use Rattle.std.specs.Prelude.{◌≡◌, ℕ, suc, List, [], ◌∷◌, ◌++◌, map, slice_index_or, cond, ltb, ◌==◌}
use Rattle.std.specs.List.{flat_map, range_with_len}
use Rattle.pipe_chain.specs.Sums.{SameItems}
use Rattle.pipe_events.specs.Worlds as worlds
use Rattle.pipe_events.specs.Worlds.{Event}
use Rattle.pipe_run.specs.declared.entry.Entry.{Entry}
use Rattle.pipe_run.specs.declared.entry.Entry.TheVariants.{Take, Flush, Done}
use Rattle.pipe_run.specs.declared.lane.Lane.{Lane}
use Rattle.pipe_run.specs.Claimed.{entries_for_part}
use Rattle.pipe_run.specs.Dealt.{in_all}
use Rattle.pipe_run.specs.declared.note.Note.{Note}

-- ---- one list

abbrev pub note_by : (worker : ℕ) → Entry → Note
note_by worker entry = record { worker = worker; entry = entry }

abbrev pub notes_of : (worker : ℕ) → List Entry → List Note
notes_of worker entries = map (note_by worker) entries

-- lane after lane, of which the first has a place
abbrev pub notes_from : (worker : ℕ) → List (List Entry) → List Note
notes_from worker [] = []
notes_from worker (entries ∷ lanes) = notes_of worker entries ++ notes_from (suc worker) lanes

abbrev pub entries_in : {O K : Type 0} → Lane O K → List Entry
entries_in lane = lane.entries.items

-- a lane is as it was, but for what it noted
pub record IsKept {O K : Type 0} (old new : Lane O K) : Type 0 where
  pub stages : new.stages ≡ old.stages
  pub flushers : new.flushers ≡ old.flushers
  pub target : new.target ≡ old.target
  pub seat : new.seat ≡ old.seat
  pub refused : new.refused ≡ old.refused

abbrev pub AllKept : {O K : Type 0} → (old new : List (Lane O K)) → Type 0
AllKept [] [] = Unit {0}
AllKept [] (y ∷ new) = ⊥
AllKept (x ∷ old) [] = ⊥
AllKept (x ∷ old) (y ∷ new) = IsKept x y × AllKept old new

-- a lane has noted nothing
abbrev pub HasNothing : {O K : Type 0} → Lane O K → Type 0
HasNothing lane = lane.entries.items ≡ []

-- ---- what lanes note of what they claim

-- What is claimed by its number, below a count, went to lanes, each number to one of them; each lane
-- noted what it claimed, in order
pub record AreNoted (count : ℕ) (entries : ℕ → List Entry) (lanes : List (List Entry)) : Type 0
  where
    pub numbers : List (List ℕ)
    pub each_once : SameItems (in_all numbers) (range_with_len 0 count)
    pub noted : lanes ≡ map (flat_map entries) numbers

-- what a lane notes of a partition, nothing past the last
abbrev pub entries_of_parts : (count : ℕ) → ℕ → List Entry
entries_of_parts count n = cond (ltb n count) (entries_for_part n) []

-- ---- events

-- the event of a worker's entry, at a source whose frames are those of some nodes, or at a join that is
-- flushed
abbrev pub entry_event : (nodes : List ℕ) → (join worker : ℕ) → Entry → Event
entry_event nodes join worker (Take part from count) =
    worlds.Take worker (slice_index_or nodes part 0) from count
entry_event nodes join worker (Flush part) = worlds.Flush worker join part
entry_event nodes join worker Done = worlds.Done worker

abbrev pub event_of : (nodes : List ℕ) → (join : ℕ) → Note → Event
event_of nodes join note = entry_event nodes join note.worker note.entry

abbrev pub events_of : (nodes : List ℕ) → (join : ℕ) → List Note → List Event
events_of nodes join notes = map (event_of nodes join) notes

-- the end of a join of which so many partitions were flushed: nothing where there was none
abbrev pub ending_of : (join parts : ℕ) → List Note → List Event
ending_of join parts notes =
    cond (parts == 0) [] (worlds.Close join worlds.OfProbe ∷ events_of [] join notes)
