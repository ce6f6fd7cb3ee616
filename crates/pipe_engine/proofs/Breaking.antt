-- What calls that were refused something tell of each plan.
use Rattle.std.proofs.Common.{◌≡◌, ℕ, ◌<◌, List, [], ◌∷◌, length, refl, sym, ap, subst, ◌∙◌, arith, inl, Option, Some, None}
use Rattle.std.specs.Prelude.{Result, Ok, Err, IfErr, IsErrAnd}
use Rattle.std.specs.List.{AllByRecursion}
use Rattle.pipe_schema.specs.Rows.{Row}
use Rattle.pipe_schema.specs.declared.field.Field.{Field}
use Rattle.pipe_ops.specs.Batches.{Left}
use Rattle.pipe_chain.specs.Flags.{SeatMarks}
use Rattle.pipe_driver.specs.Runner.{MayRunLeg}
use Rattle.pipe_driver.specs.Refusals.{Refuses, RefusesLeg, RefusesNode, RefusesSettling, RefusesEnd}
use Rattle.pipe_driver.specs.declared.error.RunError.{RunError}
use Rattle.pipe_driver.specs.declared.error.RunError.TheVariants as error
use Rattle.pipe_driver.specs.Tables.{number_at}
use Rattle.pipe_source.specs.Supplies.{left_of}
use Rattle.pipe_source.specs.declared.phys_source.PhysSource.{PhysSource}
use Rattle.pipe_run.specs.Rounds.{left_rows, schema_left, IsHaltOver, IsLeftOf}
use Rattle.pipe_run.specs.Dealt.{nodes_in, counts_in}
use Rattle.pipe_run.specs.Stages.{operators_of}
use Rattle.pipe_run.specs.declared.halt.Halt.{Halt}
use Rattle.pipe_run.specs.declared.halt.Halt.TheVariants as halt
use Rattle.pipe_run.specs.declared.lane.Lane.{Lane}
use Rattle.pipe_run.specs.declared.stage.LaneFault.{LaneFault}
use Rattle.pipe_run.specs.declared.stage.LaneFault.TheVariants as refusal
use Rattle.pipe_slots.specs.declared.phys_operator.PhysOperator.{PhysOperator}
use Rattle.pipe_slots.specs.declared.slot.Slot.{Slot}
use Rattle.pipe_slots.specs.declared.slots.Slots.{Slots}
use Rattle.pipe_passage.specs.LaneSeats.{IsRest}
use Rattle.pipe_passage.specs.Passages.{phys_words, acts_now, IsPassing, HasOpened}
use Rattle.pipe_passage.specs.Stopped.{AllOnce, BreaksOff, HoldSeats}
use Rattle.pipe_passage.specs.declared.passage.Passage.{Passage}
use Rattle.pipe_slots.specs.SinkWords.{sink_words}
use Rattle.pipe_slots.specs.declared.phys_sink.PhysSink.{PhysSink}
use Rattle.pipe_slots.specs.SlotTables.{slot_at, seats_at}
use Rattle.pipe_engine.specs.Asked.{error_of, refusal_of}
use Rattle.pipe_engine.specs.Carried.{first_node, schema_given}
use Rattle.pipe_engine.specs.Engine.{Brings, Fits, IsBefore, engine_words}
use Rattle.pipe_engine.specs.Refused.{Breaks, PastLimit, IsTold, IsNotMany}
use Rattle.pipe_engine.specs.Stands.{Settings, StandsFor}
use Rattle.pipe_engine.specs.Taken.{is_place, IsTaken}
use Rattle.pipe_engine.specs.declared.engine.Engine.{Engine}
use Rattle.pipe_engine.specs.declared.engine.OpenLeg.{OpenLeg}
use Rattle.pipe_engine.specs.declared.part.Part.{Part}
use Rattle.pipe_engine.proofs.Calls.{given_is, may_go}
use Rattle.pipe_engine.proofs.Legs.{rest_kept}
use Rattle.pipe_engine.proofs.Opens.{may_open}
use Rattle.pipe_engine.proofs.Refusing.{broken_of, leg_broken, node_refused, settle_broken}

-- an error that is passed on
pub err_passed : {T : Type 0} (e : RunError) (r : Result T RunError) (P : RunError → Type 0) → IsErrAnd r (λ f. f ≡ e) → ((f : RunError) → f ≡ e → P f) → IfErr r P
err_passed e (Ok value) P is holds = tt
err_passed e (Err f) P is holds = holds f is

pub err_same : {T : Type 0} (e : RunError) (r : Result T RunError) (P : RunError → Type 0) → IsErrAnd r (λ f. f ≡ e) → P e → IfErr r P
err_same e r P is holds = err_passed e r P is (λ f same. subst P (sym same) holds)

module _ {H : Type 0} (hash_of : H → List ℕ → ℕ) where
  abbrev Lanes : Type 0
  Lanes = List (Lane (PhysOperator H) (PhysSink H))

  -- ---- rounds

  refusal_breaks : (limit : ℕ) (from : List Field) (rows : List Row) (old new : Lanes) (ss : List (Slot H)) (free : List (List SeatMarks)) (h : Halt) → IsPassing hash_of sink_words limit from old ss free → IsHaltOver (phys_words hash_of) ss limit from rows old new h → Breaks hash_of limit from rows old new ss free (error_of h)
  refusal_breaks limit from rows old new ss free halt.Stopped was over = tt
  refusal_breaks limit from rows old new ss free (halt.Refused refusal.Memory) was over = tt
  refusal_breaks limit from rows old new ss free (halt.Refused (refusal.TooMany node)) was over = broken_of hash_of limit from rows old new ss free node was over

  pub halt_breaks : (limit : ℕ) (from : List Field) (left : List Left) (old new : Lanes) (ss : List (Slot H)) (free : List (List SeatMarks)) (h : Halt) (e : RunError) → e ≡ error_of h → schema_left left ≡ from → IsPassing hash_of sink_words limit from old ss free
      → IsHaltOver (phys_words hash_of) ss limit (schema_left left) (left_rows left) old new h → Breaks hash_of limit from (left_rows left) old new ss free e
  halt_breaks limit from left old new ss free h e is schema was over =
      let O : List Field → Type 0 = λ z. IsHaltOver (phys_words hash_of) ss limit z (left_rows left) old new h in
      let E : RunError → Type 0 = λ z. Breaks hash_of limit from (left_rows left) old new ss free z in
      subst E (sym is) (refusal_breaks limit from (left_rows left) old new ss free h was (subst O schema over))

  -- ---- a leg that ran

  -- by what was told once flags were closed
  pub leg_refused : (old : Engine H) (source : PhysSource) (part : Part H) (shared : List (Slot H)) (seats : List (List SeatMarks)) (slots : Slots H) (p q : Passage H (PhysSink H)) (e r : RunError)
      → IsTaken (operators_of part.stages.items) old.slots slots shared seats → p.shared.items ≡ shared
      → ((limit : ℕ) → HasOpened hash_of sink_words limit part.stages.items part.target shared seats p.seats.items p.lanes.items)
      → ((from : List Field) → IsPassing hash_of sink_words old.context.row_limit from p.lanes.items p.shared.items p.seats.items → AllByRecursion (IsLeftOf from) (left_of source) → Breaks hash_of old.context.row_limit from (left_rows (left_of source)) p.lanes.items q.lanes.items p.shared.items p.seats.items e)
      → q.shared.items ≡ p.shared.items → q.seats ≡ p.seats → old.leg ≡ None → IsTold hash_of slots q e r
      → (x : Settings H) → RefusesLeg (Brings source x) (StandsFor part x) (Fits hash_of old x) old.context.row_limit r
  leg_refused old source part shared seats slots p q e error.Stopped taken shared_is opened breaks same_shared same_seats idle told x m w start leg fits stands brings above above_sink built = tt
  leg_refused old source part shared seats slots p q e error.Memory taken shared_is opened breaks same_shared same_seats idle told x m w start leg fits stands brings above above_sink built = tt
  leg_refused old source part shared seats slots p q e (error.TooMany n) taken shared_is opened breaks same_shared same_seats idle told x m w start leg fits stands brings above above_sink built =
      let limit = old.context.row_limit in
      let lanes = p.lanes.items in
      let may : MayRunLeg (engine_words hash_of x) m old source part = record { w = w; start = start; leg = leg; fits = fits; stands = stands; brings = brings; above = above; above_sink = above_sink; built = built; idle = idle } in
      let o = may_open hash_of x m old source part may in
      let T : List (Slot H) → Type 0 = λ z. IsTaken (operators_of part.stages.items) old.slots slots z seats in
      let O : List (Slot H) → Type 0 = λ z. HasOpened hash_of sink_words limit part.stages.items part.target z seats p.seats.items lanes in
      let open_is = subst O (sym shared_is) (opened limit) in
      let from = schema_given x lanes in
      let broke = breaks from (o.passing lanes p.shared.items seats p.seats.items open_is) (o.schema lanes p.shared.items seats p.seats.items open_is) in
      let B : RunError → Type 0 = λ z. Breaks hash_of limit from (left_rows (left_of source)) lanes q.lanes.items p.shared.items p.seats.items z in
      let Q : List (Slot H) → Type 0 = λ z. AllOnce z (acts_now hash_of q.lanes.items q.seats.items) in
      let R : List (List SeatMarks) → Type 0 = λ z. AllOnce p.shared.items (acts_now hash_of q.lanes.items z) in
      let once = subst R (ap (λ v. v.items) same_seats) (subst Q same_shared told.stages) in
      leg_broken hash_of x old source part p seats q.lanes.items slots from n m w start leg
      (subst T (sym shared_is) taken) open_is (λ first ops e. given_is x lanes first ops e) (subst B told.was broke) told.slots once idle fits stands brings above above_sink built

  -- what stands in the slots then is at rest
  pub taken_rest : (old : Engine H) (slots : Slots H) (part : Part H) (shared : List (Slot H)) (seats : List (List SeatMarks)) → IsTaken (operators_of part.stages.items) old.slots slots shared seats
      → ((j : ℕ) → IsRest 0 (slot_at old.slots.slots.items j) (seats_at old.slots.seats.items j)) → (j : ℕ) → IsRest 0 (slot_at slots.slots.items j) (seats_at slots.seats.items j)
  taken_rest old slots part shared seats taken rest j = rest_kept (is_place (operators_of part.stages.items) j) (slot_at slots.slots.items j) (slot_at old.slots.slots.items j) (seats_at slots.seats.items j) (seats_at old.slots.seats.items j) (taken.slots j) (taken.free j) (rest j)

  -- ---- counts

  pub leave_refused : (old : Engine H) (leg : OpenLeg H) (node : ℕ) (e r : RunError) → old.leg ≡ Some leg
      → PastLimit (first_node (nodes_in leg.passage.lanes.items)) (number_at (counts_in leg.passage.lanes.items) 0) old.context.row_limit old.given.items e
      → IsTold hash_of old.slots leg.passage e r → (x : Settings H) → RefusesNode node (Fits hash_of old x) (IsBefore old.leg) old.context.row_limit r
  leave_refused old leg node e error.Stopped opened past told x m w now at fits before = tt
  leave_refused old leg node e error.Memory opened past told x m w now at fits before = tt
  leave_refused old leg node e (error.TooMany n) opened past told x m w now at fits before =
      let P : RunError → Type 0 = λ z. PastLimit (first_node (nodes_in leg.passage.lanes.items)) (number_at (counts_in leg.passage.lanes.items) 0) old.context.row_limit old.given.items z in
      record { new = w; is = refl; gives = node_refused hash_of x old leg n m w opened fits (subst P told.was past) told.slots told.stages }

  pub end_refused : (old : Engine H) (leg : OpenLeg H) (e r : RunError) → old.leg ≡ Some leg
      → PastLimit (first_node (nodes_in leg.passage.lanes.items)) (number_at (counts_in leg.passage.lanes.items) 0) old.context.row_limit old.given.items e
      → IsTold hash_of old.slots leg.passage e r → (x : Settings H) → RefusesEnd (Fits hash_of old x) (IsBefore old.leg) old.context.row_limit r
  end_refused old leg e error.Stopped opened past told x m w at fits before = tt
  end_refused old leg e error.Memory opened past told x m w at fits before = tt
  end_refused old leg e (error.TooMany n) opened past told x m w at fits before =
      let P : RunError → Type 0 = λ z. PastLimit (first_node (nodes_in leg.passage.lanes.items)) (number_at (counts_in leg.passage.lanes.items) 0) old.context.row_limit old.given.items z in
      record { new = w; is = refl; gives = node_refused hash_of x old leg n m w opened fits (subst P told.was past) told.slots told.stages }

  -- an error that isn't one of a node's rows
  pub end_not_many : (old : Engine H) (r : RunError) → IsNotMany r → (x : Settings H) → RefusesEnd (Fits hash_of old x) (IsBefore old.leg) old.context.row_limit r
  end_not_many old (error.TooMany n) not x m w at fits before = absurd not
  end_not_many old error.Stopped not x m w at fits before = tt
  end_not_many old error.Memory not x m w at fits before = tt

  pub settle_counted_refused : (old : Engine H) (leg : OpenLeg H) (node : ℕ) (e r : RunError) → old.leg ≡ Some leg
      → PastLimit (first_node (nodes_in leg.passage.lanes.items)) (number_at (counts_in leg.passage.lanes.items) 0) old.context.row_limit old.given.items e
      → IsTold hash_of old.slots leg.passage e r → (x : Settings H) → RefusesSettling node (Fits hash_of old x) (IsBefore old.leg) old.context.row_limit r
  settle_counted_refused old leg node e error.Stopped opened past told x m w now at fits before above seen built = tt
  settle_counted_refused old leg node e error.Memory opened past told x m w now at fits before above seen built = tt
  settle_counted_refused old leg node e (error.TooMany n) opened past told x m w now at fits before above seen built =
      let P : RunError → Type 0 = λ z. PastLimit (first_node (nodes_in leg.passage.lanes.items)) (number_at (counts_in leg.passage.lanes.items) 0) old.context.row_limit old.given.items z in
      record { new = w; is = inl refl; gives = node_refused hash_of x old leg n m w opened fits (subst P told.was past) told.slots told.stages }

  -- ---- a flush

  off_many : (limit : ℕ) (from : List Field) (old new : Lanes) (ss ss' : List (Slot H)) (free free' : List (List SeatMarks)) (f : LaneFault) (n : ℕ) → refusal_of f ≡ error.TooMany n → BreaksOff hash_of sink_words limit from old new ss ss' free free' f → BreaksOff hash_of sink_words limit from old new ss ss' free free' (refusal.TooMany n)
  off_many limit from old new ss ss' free free' refusal.Memory n e breaks = cc
  off_many limit from old new ss ss' free free' (refusal.TooMany k) n e breaks =
      let B : LaneFault → Type 0 = λ z. BreaksOff hash_of sink_words limit from old new ss ss' free free' z in
      let same : k ≡ n = cc in
      subst B (ap (λ z. refusal.TooMany z) same) breaks

  pub settle_refused : (old : Engine H) (leg : OpenLeg H) (p : Passage H (PhysSink H)) (node : ℕ) (f : LaneFault) (e r : RunError) → old.leg ≡ Some leg → e ≡ refusal_of f
      → ((from : List Field) → IsPassing hash_of sink_words old.context.row_limit from leg.passage.lanes.items leg.passage.shared.items leg.passage.seats.items
      → BreaksOff hash_of sink_words old.context.row_limit from leg.passage.lanes.items p.lanes.items leg.passage.shared.items p.shared.items leg.passage.seats.items p.seats.items f)
      → IsTold hash_of old.slots p e r → (x : Settings H) → RefusesSettling node (Fits hash_of old x) (IsBefore old.leg) old.context.row_limit r
  settle_refused old leg p node f e error.Stopped opened is breaks told x m w now at fits before above seen built = tt
  settle_refused old leg p node f e error.Memory opened is breaks told x m w now at fits before above seen built = tt
  settle_refused old leg p node f e (error.TooMany n) opened is breaks told x m w now at fits before above seen built =
      let lanes = leg.passage.lanes.items in
      let from = schema_given x lanes in
      let go = may_go hash_of x old leg m w node now at fits opened before in
      let off = off_many old.context.row_limit from lanes p.lanes.items leg.passage.shared.items p.shared.items leg.passage.seats.items p.seats.items f n (sym is ∙ told.was) (breaks from go.passing) in
      settle_broken hash_of x old leg p node from n m w now at opened (λ first ops e. given_is x lanes first ops e) off told.slots told.stages fits before above seen

  -- where a flush was refused by a node's rows, lanes hold their seats
  pub off_held : (limit : ℕ) (from : List Field) (old new : Lanes) (ss ss' : List (Slot H)) (free free' : List (List SeatMarks)) (f : LaneFault) (e : RunError) (n : ℕ) → e ≡ refusal_of f → e ≡ error.TooMany n → BreaksOff hash_of sink_words limit from old new ss ss' free free' f → HoldSeats hash_of new ss' free'
  off_held limit from old new ss ss' free free' f e n is many breaks = (off_many limit from old new ss ss' free free' f n (sym is ∙ many) breaks).held
