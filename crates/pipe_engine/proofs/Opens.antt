-- A leg that may run: what its lanes are opened over, and what goes through them.
use Rattle.std.proofs.Common.{◌≡◌, ℕ, ◌+◌, ◌<◌, List, [], ◌∷◌, length, map, refl, sym, ap, subst, ◌∙◌, arith, Option, None}
use Rattle.std.specs.List.{AllByRecursion}
use Rattle.std.specs.Prelude.{◌^◌}
use Rattle.pipe_schema.specs.declared.field.Field.{Field}
use Rattle.pipe_driver.specs.Legs.{sink_node}
use Rattle.pipe_driver.specs.Meaning.{Meaning}
use Rattle.pipe_driver.specs.Ways.{occurs}
use Rattle.pipe_ops.specs.Batches.{Left}
use Rattle.pipe_source.specs.Supplies.{left_of}
use Rattle.pipe_source.specs.declared.phys_source.PhysSource.{PhysSource}
use Rattle.pipe_run.specs.Rounds.{left_rows, schema_left, IsLeftOf}
use Rattle.pipe_driver.specs.Runner.{MayRunLeg}
use Rattle.pipe_driver.proofs.Sums.{alike_from}
use Rattle.pipe_chain.specs.Flags.{SeatMarks}
use Rattle.pipe_run.specs.Dealt.{nodes_in}
use Rattle.pipe_run.specs.Stages.{operators_of}
use Rattle.pipe_run.specs.declared.lane.Lane.{Lane}
use Rattle.pipe_slots.specs.SlotTables.{slot_at, seats_at}
use Rattle.pipe_slots.specs.declared.phys_operator.PhysOperator.{PhysOperator}
use Rattle.pipe_slots.specs.declared.slot.Slot.{Slot}
use Rattle.pipe_slots.specs.declared.slots.Slots.{Slots}
use Rattle.pipe_passage.specs.LaneSeats.{ArePlanned, AllRest, HasSeats, sum_of}
use Rattle.pipe_passage.specs.Passages.{IsPassing, HasOpened}
use Rattle.pipe_slots.specs.SinkWords.{sink_words}
use Rattle.pipe_slots.specs.declared.phys_sink.PhysSink.{PhysSink}
use Rattle.pipe_engine.specs.Carried.{schema_given}
use Rattle.pipe_engine.specs.Engine.{SlotFits, engine_words, nodes_before}
use Rattle.pipe_engine.specs.Stands.{Settings}
use Rattle.pipe_engine.specs.Taken.{AreApart, IsTaken, own_slot, own_seats}
use Rattle.pipe_engine.specs.declared.engine.Engine.{Engine}
use Rattle.pipe_engine.specs.declared.engine.OpenLeg.{OpenLeg}
use Rattle.pipe_engine.specs.declared.part.Part.{Part}
use Rattle.pipe_engine.proofs.Calls.{given_is}
use Rattle.pipe_engine.proofs.Opening.{nodes_are, chain_is, are_planned, are_apart, all_rest, all_enough}

-- what a leg may be opened with
pub record MayOpen {H : Type 0} (hash_of : H → List ℕ → ℕ) (x : Settings H) (old : Engine H) (source : PhysSource) (part : Part H) : Type 0 where
  pub apart : AreApart (operators_of part.stages.items) (length old.slots.slots.items)
  pub seats_apart : AreApart (operators_of part.stages.items) (length old.slots.seats.items)
  pub planned : (new : Slots H) (shared : List (Slot H)) (seats : List (List SeatMarks)) → IsTaken (operators_of part.stages.items) old.slots new shared seats → ArePlanned shared part.stages.items
  pub rest : (new : Slots H) (shared : List (Slot H)) (seats : List (List SeatMarks)) → IsTaken (operators_of part.stages.items) old.slots new shared seats → AllRest 0 shared seats
  pub enough : (new : Slots H) (shared : List (Slot H)) (seats : List (List SeatMarks)) → IsTaken (operators_of part.stages.items) old.slots new shared seats → AllByRecursion (HasSeats old.context.workers) shared
  pub passing : (lanes : List (Lane (PhysOperator H) (PhysSink H))) (ss : List (Slot H)) (before free : List (List SeatMarks)) → HasOpened hash_of sink_words old.context.row_limit part.stages.items part.target ss before free lanes
      → IsPassing hash_of sink_words old.context.row_limit (schema_given x lanes) lanes ss free
  pub schema : (lanes : List (Lane (PhysOperator H) (PhysSink H))) (ss : List (Slot H)) (before free : List (List SeatMarks)) → HasOpened hash_of sink_words old.context.row_limit part.stages.items part.target ss before free lanes
      → AllByRecursion (IsLeftOf (schema_given x lanes)) (left_of source)
  pub some : left_of source ≡ [] → ⊥
  pub few : length (left_rows (left_of source)) < 2 ^ 62
  pub idle : old.leg ≡ None

pub may_open : {H : Type 0} (hash_of : H → List ℕ → ℕ) (x : Settings H) (m : Meaning) (old : Engine H) (source : PhysSource) (part : Part H) → MayRunLeg (engine_words hash_of x) m old source part → MayOpen hash_of x old source part
may_open {H = H} hash_of x m old source part may =
    let fits = may.fits in
    let sound = fits.sound in
    let start = may.start in
    let sts = part.stages.items in
    let b = part.target in
    let os = operators_of sts in
    let ops = may.leg.operators in
    let stands = may.stands in
    let s = sink_node m.ordered part.at in
    let sink_is : m.above_sink start ≡ s = sym may.above_sink ∙ stands.sink ∙ ap (sink_node m.ordered) (sym stands.at) in
    let chain : m.above start ≡ ops = sym may.above in
    let are = alike_from m start ops s sound chain sink_is in
    let slots = old.slots.slots.items in
    let seats = old.slots.seats.items in
    let apart = are_apart x m s start sts ops part.at b m.ordered stands.stages are sound.low_join in
    let N : ℕ → Type 0 = AreApart os in
    let L : Option (OpenLeg H) → Type 0 = λ l. (j : ℕ) → occurs j (nodes_before l) ≡ 0 → SlotFits x m may.w j (slot_at slots j) (sum_of (seats_at seats j)) in
    let slots_fit : (j : ℕ) → SlotFits x m may.w j (slot_at slots j) (sum_of (seats_at seats j)) = λ j. (subst L may.idle fits.slots) j refl in
    let planned = are_planned x m may.w start sts ops part.at b slots seats stands.stages slots_fit may.built in
    record {
      apart = subst N (sym fits.nodes) apart;
      seats_apart = subst N (sym fits.seated) apart;
      planned = λ new shared vs taken. (let P : List (Slot H) → Type 0 = λ z. ArePlanned z sts in subst P (sym taken.shared_is) planned);
      rest = λ new shared vs taken. (
          let P : List (Slot H) → Type 0 = λ z. AllRest 0 z vs in
          let Q : List (List SeatMarks) → Type 0 = λ z. AllRest 0 (map (own_slot slots) os) z in
          subst P (sym taken.shared_is) (subst Q (sym taken.seats_is) (all_rest slots seats os fits.rest)));
      enough = λ new shared vs taken. (let P : List (Slot H) → Type 0 = AllByRecursion (HasSeats old.context.workers) in subst P (sym taken.shared_is) (all_enough old.context.workers slots os fits.enough));
      passing = λ lanes ss before free opened. (
          let P : List Field → Type 0 = λ z. IsPassing hash_of sink_words old.context.row_limit z lanes ss free in
          let nodes : nodes_in lanes ≡ start ∷ ops = opened.nodes ∙ nodes_are x m start sts ops part.at b stands.stages in
          subst P (sym (given_is x lanes start ops nodes)) (opened.passing (x.schema_at start) (chain_is hash_of x m start sts ops part.at b stands.stages)));
      schema = λ lanes ss before free opened. (
          let P : List Field → Type 0 = λ z. AllByRecursion (IsLeftOf z) (left_of source) in
          let nodes : nodes_in lanes ≡ start ∷ ops = opened.nodes ∙ nodes_are x m start sts ops part.at b stands.stages in
          subst P (sym (given_is x lanes start ops nodes)) may.brings.schema);
      some = may.brings.some;
      few = may.brings.few;
      idle = may.idle;
    }

-- the schema of the first frame of a source whose frames have one schema
pub first_schema : (from : List Field) (left : List Left) → AllByRecursion (IsLeftOf from) left → (left ≡ [] → ⊥) → schema_left left ≡ from
first_schema from [] all some = absurd (some refl)
first_schema from (l ∷ left) all some = all.0
