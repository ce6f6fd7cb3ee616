-- Rows that went through the lanes of a leg, and what its stages read.
use Rattle.std.specs.Prelude.{◌≡◌, ℕ, List, [], ◌∷◌, ◌++◌, Bool, true, false, All, map, length, if◌then◌else◌}
use Rattle.std.specs.List.{flat_map}
use Rattle.pipe_schema.specs.Rows.{Row, Same}
use Rattle.pipe_schema.specs.declared.field.Field.{Field}
use Rattle.pipe_chain.specs.Flags.{SeatMarks}
use Rattle.pipe_chain.specs.Counts.{plus, counts_of}
use Rattle.pipe_chain.specs.Flow.{Acts, Flows, AllGrown}
use Rattle.pipe_run.specs.Dealt.{works_in, nodes_in, counts_in}
use Rattle.pipe_run.specs.Lanes.{held_in, IsSet}
use Rattle.pipe_run.specs.declared.lane.Lane.{Lane}
use Rattle.pipe_passage.specs.Passages.{phys_words, acts_now, IsPassing, GivesSchemas}
use Rattle.pipe_slots.specs.SlotTables.{slot_at, seats_at}
use Rattle.pipe_slots.specs.declared.phys_operator.PhysOperator.{PhysOperator}
use Rattle.pipe_slots.specs.declared.slot.Slot.{Slot}
use Rattle.pipe_slots.specs.declared.slot.Slot.TheVariants.{Empty}
use Rattle.pipe_slots.specs.declared.slots.Slots.{Slots}
use Rattle.pipe_slots.specs.Sinks.{SinkSetting, setting_in, sink_rows}
use Rattle.pipe_slots.specs.SinkWords.{sink_words}
use Rattle.pipe_engine.specs.Stands.{Settings}
use Rattle.pipe_slots.specs.declared.phys_sink.PhysSink.{PhysSink}

-- some rows flowed through the stages of all lanes
pub record Carried {H : Type 0} (hash_of : H → List ℕ → ℕ) (limit : ℕ) (from : List Field)
    (rows : List Row) (old new : List (Lane (PhysOperator H) (PhysSink H))) (ss : List (Slot H))
    (free : List (List SeatMarks)) : Type 0 where
  pub acts : List Acts
  pub out : List Row
  pub grown : AllGrown (acts_now hash_of old free) (acts_now hash_of new free) acts
  pub flows : Flows (works_in (phys_words hash_of) from ss old) acts rows out
  pub held : Same (flat_map (held_in sink_rows) new) (flat_map (held_in sink_rows) old ++ out)
  pub counts : counts_in new
      ≡ plus (counts_in old) (counts_of (works_in (phys_words hash_of) from ss old) acts rows)
  pub works : works_in (phys_words hash_of) from ss new ≡ works_in (phys_words hash_of) from ss old
  pub nodes : nodes_in new ≡ nodes_in old
  pub passing : IsPassing hash_of sink_words limit from new ss free
  pub long : length new ≡ length old
  pub settings : (s : SinkSetting H) → All (IsSet setting_in s) old → All (IsSet setting_in s) new
  pub gives : (schemas : List (List Field)) → All (GivesSchemas from schemas) old →
      All (GivesSchemas from schemas) new

-- what a stage read is put back, if it read anything, with the seats there
pub record IsBack {H : Type 0} (node : ℕ) (slot : Slot H) (seats : List SeatMarks)
    (old new : Slots H) : Type 0 where
  pub here : slot_at new.slots.items node ≡ slot
  pub seats_here : (slot ≡ Empty → ⊥) → seats_at new.seats.items node ≡ seats
  pub slots : (k : ℕ) → (k ≡ node → ⊥) → slot_at new.slots.items k ≡ slot_at old.slots.items k
  pub free : (k : ℕ) → (k ≡ node → ⊥) → seats_at new.seats.items k ≡ seats_at old.seats.items k
  pub count : length new.slots.items ≡ length old.slots.items
  pub seats_count : length new.seats.items ≡ length old.seats.items
  pub workers : new.workers ≡ old.workers

-- the first of some slots is empty, or not
abbrev pub ReadsNothing : {H : Type 0} → Bool → List (Slot H) → Type 0
ReadsNothing nothing [] = ⊥
ReadsNothing true (s ∷ ss) = s ≡ Empty
ReadsNothing false (s ∷ ss) = s ≡ Empty → ⊥

-- the schema of the rows that the first of a leg's stages is given
abbrev pub first_node : List ℕ → ℕ
first_node [] = 0
first_node (n ∷ ns) = n

abbrev pub schema_given : {H : Type 0} → Settings H → List (Lane (PhysOperator H) (PhysSink H)) → List Field
schema_given x lanes = x.schema_at (first_node (nodes_in lanes))
