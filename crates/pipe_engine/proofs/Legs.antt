-- A leg that runs: what the engine has before it and after it.
use Rattle.std.proofs.Common.{◌≡◌, ◌≢◌, ℕ, zero, suc, ◌+◌, ◌<◌, ◌≤◌, Bool, true, false, cond, ◌==◌, List, [], ◌∷◌, ◌++◌, length, map, Option, Some, None, refl, sym, ap, subst, ◌∙◌, arith, append-nil}
use Rattle.std.specs.Prelude.{All}
use Rattle.std.specs.List.{flat_map, AllByRecursion}
use Rattle.std.specs.Global.{Vec}
use Rattle.pipe_events.specs.declared.event.Event.{Event}
use Rattle.pipe_frame.specs.Frame.{Table}
use Rattle.pipe_schema.specs.Rows.{Row, Same}
use Rattle.pipe_schema.specs.Weights.{total}
use Rattle.pipe_schema.specs.declared.field.Field.{Field}
use Rattle.pipe_schema.proofs.Weights.{SameBag, SameBag-refl, SameBag-sym, SameBag-trans, SameBag-append, SameBag-from_equal, SameBag-from_rows, Same-from_bag, total-append}
use Rattle.pipe_driver.specs.declared.branch.SinkAt.{SinkAt}
use Rattle.pipe_driver.specs.Meaning.{Meaning, Place, OutOf, Into}
use Rattle.pipe_driver.specs.Legs.{Leg, sink_node}
use Rattle.pipe_driver.specs.Ways.{one, occurs, IsSoundMeaning}
use Rattle.pipe_driver.proofs.Tests.{by_test, eq-is, eq-true, eq-false, eq-not, not-both}
use Rattle.pipe_driver.specs.State.{World, HasPassed, AreAlike}
use Rattle.pipe_driver.specs.Runner.{Becomes, AreBuilt, RunsLeg}
use Rattle.pipe_driver.proofs.Sums.{alike_from}
use Rattle.pipe_chain.specs.Chain.{works_of}
use Rattle.pipe_chain.specs.Flow.{Work, Acts, Flows, AllGrown}
use Rattle.pipe_chain.proofs.FlowLemmas.{flows-same}
use Rattle.pipe_chain.proofs.Weighing.{rows-refl, keys-sym}
use Rattle.pipe_chain.specs.Counts.{counts_of}
use Rattle.pipe_run.specs.Dealt.{works_in, nodes_in, counts_in}
use Rattle.pipe_run.specs.Lanes.{held_in, IsSet}
use Rattle.pipe_run.specs.Stages.{operators_of}
use Rattle.pipe_run.specs.declared.lane.Lane.{Lane}
use Rattle.pipe_run.specs.declared.stage.SinkStage.{SinkStage}
use Rattle.pipe_run.specs.declared.stage.Stage.{Stage}
use Rattle.pipe_slots.specs.declared.phys_operator.PhysOperator.{PhysOperator}
use Rattle.pipe_source.specs.Supplies.{left_of}
use Rattle.pipe_source.specs.declared.phys_source.PhysSource.{PhysSource}
use Rattle.pipe_run.specs.Rounds.{left_rows}
use Rattle.pipe_passage.specs.Passages.{phys_words, acts_now, GivesSchemas, HasOpened}
use Rattle.pipe_chain.specs.Flags.{SeatMarks}
use Rattle.pipe_passage.specs.LaneSeats.{sum_of, IsRest, HasSeats, SameActs, AllSameActs}
use Rattle.pipe_slots.specs.SlotTables.{slot_at, seats_at}
use Rattle.pipe_passage.specs.declared.passage.Passage.{Passage}
use Rattle.pipe_slots.specs.declared.slot.Slot.{Slot}
use Rattle.pipe_slots.specs.declared.slot.Slot.TheVariants as slot
use Rattle.pipe_slots.specs.declared.slots.Slots.{Slots}
use Rattle.pipe_driver.specs.Along.{AllMakeOf, more_of, come_to, counted_at}
use Rattle.pipe_engine.specs.Carried.{Carried}
use Rattle.pipe_engine.specs.Engine.{Brings, SlotFits, StagesFit, Fits, IsBefore, rows_of_sink, sink_at, rows_for, nodes_before, behind}
use Rattle.pipe_driver.specs.ChainLaws.{Arrived}
use Rattle.pipe_engine.specs.Passed.{with_more}
use Rattle.pipe_slots.specs.Sinks.{SinkSetting, setting_in, sink_rows}
use Rattle.pipe_slots.specs.SinkWords.{sink_words}
use Rattle.pipe_engine.specs.Stands.{Settings, AreStagesOf, StandsFor}
use Rattle.pipe_engine.specs.Taken.{own_seats, is_place, IsTaken}
use Rattle.pipe_engine.specs.declared.engine.Engine.{Engine}
use Rattle.pipe_engine.specs.declared.engine.OpenLeg.{OpenLeg}
use Rattle.pipe_engine.specs.declared.part.Part.{Part}
use Rattle.pipe_slots.specs.declared.phys_sink.PhysSink.{PhysSink}
use Rattle.pipe_driver.proofs.Flowing.{arrived, more_none, not_on}
use Rattle.pipe_engine.proofs.Counted.{counts_alike, run_counted}
use Rattle.pipe_engine.proofs.Opening.{nodes_are, ends_in, gives_are, place_off, not_placed, stages_open, all_enough}
use Rattle.pipe_engine.specs.Wholes.{HasFrame, IsKeptFrame}
use Rattle.pipe_engine.proofs.Wholes.{flows_none, frame_place, frame_whole, into_empty, no_works}
use Rattle.pipe_engine.proofs.Stages.{stages_pass, same_stages, works_make, all_give, slot_stays}

-- ---- a node whose join isn't on the way

on_chain : (m : Meaning) (s : ℕ) (ops : List ℕ) (t j : ℕ) → AreAlike m s ops → 0 < occurs t ops → occurs j (m.above t) ≤ occurs j ops
on_chain m s [] t j are some = absurd (omega arith)
on_chain m s (op ∷ ops) t j are some = by_test (occurs j (m.above t) ≤ occurs j (op ∷ ops)) (op == t)
    (λ e. (let same : occurs j (m.above t) ≡ occurs j ops = ap (λ k. occurs j (m.above k)) (sym (eq-is op t e)) ∙ ap (occurs j) are.0 in omega arith))
    (λ e. (let z = ap one e in let r = on_chain m s ops t j are.2 (omega arith) in omega arith))

-- the probe side of a join that isn't on the way is off it too
pub probed_off : (m : Meaning) (n s : ℕ) (ops : List ℕ) (j : ℕ) → IsSoundMeaning m → m.above n ≡ ops → AreAlike m s ops → occurs j ops ≡ 0 → m.is_join j ≡ true → (n ≡ m.probed j → ⊥) × (occurs (m.probed j) ops ≡ 0)
probed_off m n s ops j sound above are none join =
    let p = m.probed j in
    let e : occurs j (m.above p) ≡ occurs j (j ∷ m.above j) = ap (occurs j) (sound.probed j join) in
    let here : one (j == j) ≡ 1 = ap one (eq-true j j refl) in (
      (λ same. (let q : occurs j (m.above n) ≡ occurs j (m.above p) = ap (λ k. occurs j (m.above k)) same in let r = ap (occurs j) above in absurd (omega arith))),
      (let split : (k : ℕ) → k ≡ occurs p ops → k ≡ 0 = elim [
        | zero ↦ λ q. refl
        | suc k ↦ λ q. absurd (let l = on_chain m s ops p j are (let z = q in omega arith) in omega arith)
      ] in split (occurs p ops) refl),
    )

same_back : (acting bs : List Acts) → AllSameActs acting bs → AllSameActs bs acting
same_back [] [] h = tt
same_back [] (b ∷ bs) h = absurd h
same_back (a ∷ acting) [] h = absurd h
same_back (a ∷ acting) (b ∷ bs) h = (record { marked = keys-sym h.0.marked; won = keys-sym h.0.won }, same_back acting bs h.1)

-- ---- bags

pub sum_bags : (a b c d : List Row) → SameBag a b → SameBag c d → SameBag (a ++ c) (b ++ d)
sum_bags a b c d h k = SameBag-append h k

pub into_sink : (there kept gone out came held : List Row) → SameBag there (kept ++ []) → SameBag out came → SameBag held (gone ++ out) → gone ≡ [] → SameBag (there ++ came) (kept ++ held)
into_sink there kept gone out came held h k l none = record {
  sums = λ f. (
      let a = h.sums f in let b = k.sums f in let c = l.sums f in
      let z = ap (total f) none in
      let e1 = total-append f there came in
      let e2 = total-append f kept held in
      let e3 = total-append f gone out in
      let e4 = total-append f kept [] in omega arith);
}

pub beside_sink : (there kept came : List Row) → SameBag there (kept ++ []) → SameBag [] came → SameBag (there ++ came) (kept ++ [])
beside_sink there kept came h k = record {
  sums = λ f. (let a = h.sums f in let b = k.sums f in let e1 = total-append f there came in omega arith);
}

-- ---- the engine with a leg that runs

-- with other rows counted at nodes
abbrev pub with_given : {H : Type 0} → Engine H → Vec ℕ → Engine H
with_given e given = record e { given = given }

abbrev pub with_leg : {H : Type 0} → Engine H → Slots H → Option (OpenLeg H) → ℕ → Vec Event → Engine H
with_leg e slots leg index journal = record e { slots = slots; leg = leg; next_index = index; journal = journal }

pub rest_kept : {H : Type 0} (k : Bool) (s t : Slot H) (a b : List SeatMarks) → s ≡ cond k slot.Empty t → a ≡ cond k [] b → IsRest 0 t b → IsRest 0 s a
rest_kept {H = H} true s t a b e g is = let P : Slot H → Type 0 = λ z. IsRest 0 z a in subst P (sym e) tt
rest_kept {H = H} false s t a b e g is = let P : Slot H → Type 0 = λ z. IsRest 0 z a in let Q : List SeatMarks → Type 0 = λ z. IsRest 0 t z in subst P (sym e) (subst Q (sym g) is)

enough_kept : {H : Type 0} (lanes : ℕ) (k : Bool) (s t : Slot H) → s ≡ cond k slot.Empty t → HasSeats lanes t → HasSeats lanes s
enough_kept {H = H} lanes true s t e is = let P : Slot H → Type 0 = HasSeats lanes in subst P (sym e) tt
enough_kept {H = H} lanes false s t e is = let P : Slot H → Type 0 = HasSeats lanes in subst P (sym e) is

pub slot_kept : {H : Type 0} (x : Settings H) (m : Meaning) (w : World) (j : ℕ) (k : Bool) (s t : Slot H) (a b : List SeatMarks) → k ≡ false → s ≡ cond k slot.Empty t → a ≡ cond k [] b → SlotFits x m w j t (sum_of b) → SlotFits x m w j s (sum_of a)
slot_kept {H = H} x m w j k s t a b off e g is =
    let e2 : s ≡ t = e ∙ ap (λ z. cond z slot.Empty t) off in
    let g2 : a ≡ b = g ∙ ap (λ z. cond z [] b) off in
    let P : Slot H → Type 0 = λ z. SlotFits x m w j z (sum_of a) in
    let Q : List SeatMarks → Type 0 = λ z. SlotFits x m w j t (sum_of z) in
    subst P (sym e2) (subst Q (sym g2) is)

empty_of : {H : Type 0} (x : Settings H) (m : Meaning) (w : World) (n : ℕ) (s : Slot H) (acts : Acts) → m.is_join n ≡ false → SlotFits x m w n s acts → s ≡ slot.Empty
empty_of x m w n slot.Empty acts not is = refl
empty_of x m w n (slot.Keys t) acts not is = absurd (not-both (m.is_join n) is.join.is_join not)
empty_of x m w n (slot.Rows f) acts not is = absurd (not-both (m.is_join n) is.join.is_join not)
empty_of x m w n (slot.Full t) acts not is = absurd (not-both (m.is_join n) is.join.is_join not)
empty_of x m w n slot.Spent acts not is = absurd (not-both (m.is_join n) is.0 not)

is_taken : {H : Type 0} (x : Settings H) (m : Meaning) (w : World) (given : ℕ) (sts : List (Stage (PhysOperator H))) (ops : List ℕ) (at : SinkAt) (b : SinkStage (PhysSink H)) (j : ℕ) (s t : Slot H) (acts : Acts) → AreStagesOf x m given sts ops at b → 0 < occurs j ops → s ≡ cond (is_place (operators_of sts) j) slot.Empty t → SlotFits x m w j t acts
    → s ≡ slot.Empty
is_taken x m w given sts ops at b j s t acts are on e is = by_test (s ≡ slot.Empty) (is_place (operators_of sts) j)
    (λ k. e ∙ ap (λ z. cond z slot.Empty t) k)
    (λ k. e ∙ ap (λ z. cond z slot.Empty t) k ∙ empty_of x m w j t acts (not_placed x m given sts ops at b j are on k) is)

pub run_fits : {H : Type 0} (hash_of : H → List ℕ → ℕ) (x : Settings H) (old : Engine H) (source : PhysSource) (part : Part H) (p : Passage H (PhysSink H)) (seats : List (List SeatMarks)) (lanes : Vec (Lane (PhysOperator H) (PhysSink H))) (slots : Slots H) (index : ℕ) (journal : Vec Event) (from : List Field) (frame whole : Option Table)
    → length p.lanes.items ≤ old.context.workers → HasFrame source frame → IsKeptFrame part.at part.stages.items frame whole
    → IsTaken (operators_of part.stages.items) old.slots slots p.shared.items seats
    → HasOpened hash_of sink_words old.context.row_limit part.stages.items part.target p.shared.items seats p.seats.items p.lanes.items
    → ((start : ℕ) (ops : List ℕ) → nodes_in p.lanes.items ≡ start ∷ ops → from ≡ x.schema_at start)
    → Carried hash_of old.context.row_limit from (left_rows (left_of source)) p.lanes.items lanes.items p.shared.items p.seats.items
    → old.leg ≡ None
    → RunsLeg (Brings source x) (StandsFor part x) (Fits hash_of old x) (Fits hash_of (with_leg old slots (Some (record { at = part.at; passage = record p { lanes = lanes }; sink = part.target.sink; whole = whole })) index journal) x)
    (IsBefore (Some (record { at = part.at; passage = record p { lanes = lanes }; sink = part.target.sink; whole = whole })))
run_fits {H = H} hash_of x old source part p seats lanes slots index journal from frame whole few has kept taken opened from_is carried idle m w start leg fits stands brings above above_sink built =
    let sound = fits.sound in
    let sts = part.stages.items in
    let b = part.target in
    let os = operators_of sts in
    let ops = leg.operators in
    let limit = old.context.row_limit in
    let at_is : part.at ≡ leg.at = stands.at in
    let s = sink_node m.ordered part.at in
    let sink_is : m.above_sink start ≡ s = sym above_sink ∙ stands.sink ∙ ap (sink_node m.ordered) (sym at_is) in
    let chain : m.above start ≡ ops = sym above in
    let are = alike_from m start ops s sound chain sink_is in
    let nodes0 : nodes_in p.lanes.items ≡ start ∷ ops = opened.nodes ∙ nodes_are x m start sts ops part.at b stands.stages in
    let schema : from ≡ x.schema_at start = from_is start ops nodes0 in
    let P : List Field → Type 0 = λ z. Carried hash_of limit z (left_rows (left_of source)) p.lanes.items lanes.items p.shared.items p.seats.items in
    let went : Carried hash_of limit (x.schema_at start) (left_rows (left_of source)) p.lanes.items lanes.items p.shared.items p.seats.items = subst P schema carried in
    let L : Option (OpenLeg H) → Type 0 = λ l. (j : ℕ) → occurs j (nodes_before l) ≡ 0 → SlotFits x m w j (slot_at old.slots.slots.items j) (sum_of (seats_at old.slots.seats.items j)) in
    let slots_fit : (j : ℕ) → SlotFits x m w j (slot_at old.slots.slots.items j) (sum_of (seats_at old.slots.seats.items j)) = λ j. (subst L idle fits.slots) j refl in
    let ss = p.shared.items in
    let ks = works_in (phys_words hash_of) (x.schema_at start) ss p.lanes.items in
    let acts0 = acts_now hash_of p.lanes.items p.seats.items in
    let acts1 = acts_now hash_of lanes.items p.seats.items in
    let stages0 : StagesFit x m w start ops ks ss acts0 =
    (let K : List Work → Type 0 = λ z. StagesFit x m w start ops z ss acts0 in
    let S : List (Slot H) → Type 0 = λ z. StagesFit x m w start ops (works_of (phys_words hash_of) (x.schema_at start) os z) z (map sum_of (map (own_seats old.slots.seats.items) os)) in
    let first = stages_open hash_of x m w start sts ops part.at b old.slots.slots.items old.slots.seats.items stands.stages slots_fit built in
    let A : List (List SeatMarks) → Type 0 = λ z. AllSameActs (map sum_of z) acts0 in
    subst K (sym (opened.works (x.schema_at start))) (same_stages x m w start ops (works_of (phys_words hash_of) (x.schema_at start) os ss) ss (map sum_of (map (own_seats old.slots.seats.items) os)) acts0 (subst A taken.seats_is opened.acts) (subst S (sym taken.shared_is) first))) in
    let makes : AllMakeOf m ops ks = works_make x m w start ops ks ss acts0 stages0 in
    let acting = went.acts in
    let rows = m.rows start in
    let flows : Flows ks acting rows went.out = flows-same ks acting (left_rows (left_of source)) rows went.out went.out (Same-from_bag brings.rows) (rows-refl went.out) went.flows in
    let came = arrived m start s ops ks acting rows went.out sound chain sink_is are makes flows in
    let more = more_of ops ks acting in
    let c = come_to m start rows more in
    let new_w = with_more w c more in
    let stages1 : StagesFit x m new_w start ops ks ss acts1 = stages_pass x m w c more start ops ks ss acts0 acts1 acting stages0 went.grown came.marked (all_give m s ops ks acting are) in
    let nodes1 : nodes_in lanes.items ≡ start ∷ ops = went.nodes ∙ nodes0 in
    let none_more : (j : ℕ) → occurs j ops ≡ 0 → SameBag [] (more j) = λ j off. SameBag-from_equal (sym (more_none ops ks acting j off)) in
    let none_came : (j : ℕ) → occurs j ops ≡ 0 → m.is_join j ≡ true → SameBag [] (c (OutOf (m.probed j))) = λ j off join. (let o = probed_off m start s ops j sound chain are off join in came.apart (m.probed j) o.0 o.1) in
    let end = ends_in x m start sts ops part.at b stands.stages in
    let there : (t : ℕ) → SameBag (w.there (Into t)) (rows_of_sink (sink_at old.sinks.items t) ++ []) = λ t. (let R : Option (OpenLeg H) → Type 0 = λ l. SameBag (w.there (Into t)) (rows_of_sink (sink_at old.sinks.items t) ++ rows_for m l t) in subst R idle (fits.sinks t)) in
    let held1 = flat_map (held_in sink_rows) lanes.items in (
      record {
        new = new_w;
        fit = record {
          sound = sound;
          parts = fits.parts;
          some = fits.some;
          few = fits.few;
          ordered = fits.ordered;
          nodes = taken.count ∙ fits.nodes;
          seated = taken.seats_count ∙ fits.seated;
          workers = taken.workers ∙ fits.workers;
          places = fits.places;
          given = fits.given;
          counted = run_counted old.given.items old.leg (record { at = part.at; passage = record p { lanes = lanes }; sink = part.target.sink; whole = whole }) limit w c more (start ∷ ops) (counts_in p.lanes.items) (counts_of ks acting (left_rows (left_of source)))
              fits.counted idle nodes1 went.counts opened.within
              (λ t. ap (counted_at t (start ∷ ops)) (counts_alike ks acting (left_rows (left_of source)) rows brings.rows) ∙ came.counted t);
          sinks = λ t. (
              let Q : Bool → Type 0 = λ z. SameBag (w.there (Into t) ++ c (Into t)) (rows_of_sink (sink_at old.sinks.items t) ++ cond z held1 []) in
              let T : ℕ → Type 0 = λ z. SameBag went.out (c (Into z)) in
              by_test (Q (t == s)) (t == s)
              (λ e. subst Q (sym e) (into_sink (w.there (Into t)) (rows_of_sink (sink_at old.sinks.items t)) (flat_map (held_in sink_rows) p.lanes.items) went.out (c (Into t)) held1 (there t) (subst T (sym (eq-is t s e)) came.sink) (SameBag-from_rows went.held) opened.empty))
              (λ e. subst Q (sym e) (beside_sink (w.there (Into t)) (rows_of_sink (sink_at old.sinks.items t)) (c (Into t)) (there t) (came.elsewhere t (λ g. eq-not t s e (sym g))))));
          kept = fits.kept;
          slots = λ j off. (
              let gone : occurs j ops ≡ 0 = ap (λ z. occurs j (behind z)) (sym nodes1) ∙ off in
              slot_kept x m new_w j (is_place os j) (slot_at slots.slots.items j) (slot_at old.slots.slots.items j) (seats_at slots.seats.items j) (seats_at old.slots.seats.items j)
              (place_off x m start sts ops part.at b j stands.stages gone) (taken.slots j) (taken.free j)
              (slot_stays x m w c more j (slot_at old.slots.slots.items j) (sum_of (seats_at old.slots.seats.items j)) (slots_fit j) (none_came j gone) (none_more j gone)));
          rest = λ j. rest_kept (is_place os j) (slot_at slots.slots.items j) (slot_at old.slots.slots.items j) (seats_at slots.seats.items j) (seats_at old.slots.seats.items j) (taken.slots j) (taken.free j) (fits.rest j);
          enough = λ j. enough_kept old.context.workers (is_place os j) (slot_at slots.slots.items j) (slot_at old.slots.slots.items j) (taken.slots j) (fits.enough j);
          taken = λ j on. (let gone : 0 < occurs j ops = (let e = ap (λ z. occurs j (behind z)) nodes1 in omega arith) in
              is_taken x m w start sts ops part.at b j (slot_at slots.slots.items j) (slot_at old.slots.slots.items j) (sum_of (seats_at old.slots.seats.items j)) stands.stages gone (taken.slots j) (slots_fit j));
          leg = record {
            given = start;
            nodes = nodes1 ∙ ap (λ z. start ∷ z) above;
            run = brings.run;
            above_sink = sink_is;
            passing = went.passing;
            gives = (let G : List (List Field) → Type 0 = λ z. All (GivesSchemas (x.schema_at start) z) p.lanes.items in
                went.gives (map x.schema_at (m.above start)) (subst G (gives_are x m start sts ops part.at b stands.stages ∙ ap (map x.schema_at) above) (opened.gives_all (x.schema_at start))));
            stages = (let F : List ℕ → Type 0 = λ z. StagesFit x m new_w start z (works_in (phys_words hash_of) (x.schema_at start) ss lanes.items) ss acts1 in
                let K : List Work → Type 0 = λ z. StagesFit x m new_w start ops z ss acts1 in
                subst F above (subst K (sym went.works) stages1));
            enough = (let E : List (Slot H) → Type 0 = AllByRecursion (HasSeats old.context.workers) in subst E (sym taken.shared_is) (all_enough old.context.workers old.slots.slots.items os fits.enough));
            setting = end.is.setting;
            lanes = (let Z : SinkSetting H → Type 0 = λ z. All (IsSet setting_in z) lanes.items in subst Z end.is.setting (went.settings (setting_in b.sink) opened.settings));
            ends = end.is.ends;
            empty = end.is.empty;
            whole = frame_whole x m start source part.at sts ops (m.above start) b frame whole held1 has kept stands.stages chain
                (λ none. into_empty (flat_map (held_in sink_rows) p.lanes.items) (left_rows (left_of source)) went.out held1 opened.empty
                (flows_none ks acting (left_rows (left_of source)) went.out (opened.works (x.schema_at start) ∙ ap (λ z. works_of (phys_words hash_of) (x.schema_at start) (operators_of z) ss) none ∙ no_works (phys_words hash_of) (x.schema_at start) ss) went.flows) went.held);
            place = frame_place x m start source part.at sts ops b frame whole has kept stands.stages brings stands.order;
            few = (let long = went.long in omega arith);
          };
        };
        is = record {
          more = more;
          only = λ j off. more_none ops ks acting j (ap (occurs j) above ∙ off);
          there = λ y. SameBag-refl (w.there y ++ c y);
          gained = λ j. SameBag-refl (w.gained j ++ more j);
          slot = refl;
        };
      },
      (ap behind nodes1, at_is),
    )
