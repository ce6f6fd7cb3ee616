-- What is known where a run ends since a node has too many rows.
use Rattle.std.specs.Prelude.{◌≡◌, ℕ, ◌+◌, ◌<◌, List, length}
use Rattle.pipe_schema.specs.Rows.{Row}
use Rattle.pipe_schema.specs.declared.field.Field.{Field}
use Rattle.pipe_chain.specs.Flags.{SeatMarks}
use Rattle.pipe_chain.specs.Counts.{plus, Over}
use Rattle.pipe_chain.specs.Flow.{Acts, AllGrown}
use Rattle.pipe_chain.specs.Parts.{Parts}
use Rattle.pipe_driver.specs.Refusals.{Tells}
use Rattle.pipe_driver.specs.Tables.{number_at}
use Rattle.pipe_driver.specs.declared.error.RunError.{RunError}
use Rattle.pipe_driver.specs.declared.error.RunError.TheVariants as error
use Rattle.pipe_run.specs.Dealt.{works_in, nodes_in, counts_in}
use Rattle.pipe_run.specs.declared.lane.Lane.{Lane}
use Rattle.pipe_slots.specs.SlotTables.{slot_at, seats_at}
use Rattle.pipe_slots.specs.declared.phys_operator.PhysOperator.{PhysOperator}
use Rattle.pipe_slots.specs.declared.slot.Slot.{Slot}
use Rattle.pipe_slots.specs.declared.slots.Slots.{Slots}
use Rattle.pipe_passage.specs.LaneSeats.{sum_of}
use Rattle.pipe_passage.specs.Passages.{phys_words, acts_now}
use Rattle.pipe_passage.specs.Stopped.{IsOnce, AllOnce}
use Rattle.pipe_passage.specs.declared.passage.Passage.{Passage}
use Rattle.pipe_slots.specs.declared.phys_sink.PhysSink.{PhysSink}
use Rattle.pipe_engine.specs.Known.{Known}

-- some rows went a part of their way through the stages of all lanes, and a node was given more than
-- the limit
pub record Broken {H : Type 0} (hash_of : H → List ℕ → ℕ) (limit : ℕ) (from : List Field)
    (rows : List Row) (old new : List (Lane (PhysOperator H) (PhysSink H))) (ss : List (Slot H))
    (free : List (List SeatMarks)) (node : ℕ) : Type 0 where
  pub acts : List Acts
  pub grown : AllGrown (acts_now hash_of old free) (acts_now hash_of new free) acts
  pub tally : List ℕ
  pub parts : Parts (works_in (phys_words hash_of) from ss old) acts tally rows
  pub told : Over limit (plus (counts_in old) tally) (nodes_in old) node

abbrev pub Breaks : {H : Type 0} → (hash_of : H → List ℕ → ℕ) → (limit : ℕ) →
    (from : List Field) → (rows : List Row) →
    (old new : List (Lane (PhysOperator H) (PhysSink H))) → (ss : List (Slot H)) →
    (free : List (List SeatMarks)) → RunError → Type 0
Breaks hash_of limit from rows old new ss free (error.TooMany node) =
    Broken hash_of limit from rows old new ss free node
Breaks hash_of limit from rows old new ss free error.Stopped = Unit {0}
Breaks hash_of limit from rows old new ss free error.Memory = Unit {0}

-- so many rows more of a node than were given before are past the limit
pub record IsPast (node rows limit : ℕ) (given : List ℕ) (n : ℕ) : Type 0 where
  pub told : n ≡ node
  pub there : node < length given
  pub many : limit < number_at given node + rows

abbrev pub PastLimit : (node rows limit : ℕ) → (given : List ℕ) → RunError → Type 0
PastLimit node rows limit given (error.TooMany n) = IsPast node rows limit given n
PastLimit node rows limit given error.Stopped = ⊥
PastLimit node rows limit given error.Memory = ⊥

-- ---- flags that were closed

-- of each slot it is known that each key was won once
abbrev pub SlotsOnce : {H : Type 0} → Slots H → Type 0
SlotsOnce slots =
    (j : ℕ) → IsOnce (slot_at slots.slots.items j) (sum_of (seats_at slots.seats.items j))

-- and of what a leg's stages read
pub record ToldOnce {H : Type 0} (hash_of : H → List ℕ → ℕ) (kept : Slots H)
    (p : Passage H (PhysSink H)) (e : RunError) (n : ℕ) : Type 0 where
  pub was : e ≡ error.TooMany n
  pub slots : SlotsOnce kept
  pub stages : AllOnce p.shared.items (acts_now hash_of p.lanes.items p.seats.items)

-- a node's rows are told as too many where that was found, and all flags are closed
abbrev pub IsTold : {H : Type 0} → (hash_of : H → List ℕ → ℕ) → Slots H →
    Passage H (PhysSink H) → (e told : RunError) → Type 0
IsTold hash_of slots p e (error.TooMany n) = ToldOnce hash_of slots p e n
IsTold hash_of slots p e error.Stopped = Unit {0}
IsTold hash_of slots p e error.Memory = Unit {0}

-- ---- what an error says of each plan

abbrev pub TellsEachPlan : {H : Type 0} → (limit : ℕ) → RunError → Known H → Type 0
TellsEachPlan limit e k = Tells k.task.m limit e

-- it isn't one of a node's rows
abbrev pub IsNotMany : RunError → Type 0
IsNotMany (error.TooMany n) = ⊥
IsNotMany error.Stopped = Unit {0}
IsNotMany error.Memory = Unit {0}
