-- A leg leaves a node, or settles it: what the engine has before it and after it.
use Rattle.std.proofs.Common.{◌≡◌, ◌≢◌, ℕ, ◌+◌, ◌<◌, Bool, true, false, cond, ◌==◌, List, [], ◌∷◌, ◌++◌, length, map, Option, Some, None, refl, sym, ap, subst, ◌∙◌, arith}
use Rattle.std.specs.Prelude.{All}
use Rattle.std.specs.List.{flat_map, AllByRecursion}
use Rattle.std.specs.Global.{Vec}
use Rattle.pipe_events.specs.declared.event.Event.{Event}
use Rattle.pipe_schema.specs.Rows.{Row, Same}
use Rattle.pipe_schema.specs.Weights.{total}
use Rattle.pipe_schema.specs.declared.field.Field.{Field}
use Rattle.pipe_schema.proofs.Weights.{SameBag, SameBag-refl, SameBag-sym, SameBag-trans, SameBag-append, SameBag-from_equal, SameBag-from_rows, total-append}
use Rattle.pipe_driver.specs.declared.branch.SinkAt.{SinkAt}
use Rattle.pipe_chain.specs.Flags.{SeatMarks}
use Rattle.pipe_driver.specs.Meaning.{Meaning, Place, OutOf, Into}
use Rattle.pipe_driver.specs.Legs.{sink_node}
use Rattle.pipe_driver.specs.Ways.{one, occurs, IsSoundMeaning}
use Rattle.pipe_driver.proofs.Tests.{by_test, eq-is, eq-true, eq-false, eq-not, not-both}
use Rattle.pipe_driver.specs.State.{World, Waits, Has, HasSettled, spent, spent_at}
use Rattle.pipe_driver.specs.State as state
use Rattle.pipe_driver.specs.Runner.{Becomes, AreBuilt, Leaves, Settles}
use Rattle.pipe_driver.proofs.Sums.{alike_from}
use Rattle.pipe_chain.specs.Flow.{Work, Acts, Flows, AllGrown}
use Rattle.pipe_chain.specs.Counts.{counts_of}
use Rattle.pipe_run.specs.Dealt.{works_in, nodes_in, counts_in}
use Rattle.pipe_run.specs.Flushes.{rows_of_parts}
use Rattle.pipe_run.specs.Lanes.{held_in, IsSet}
use Rattle.pipe_run.specs.declared.lane.Lane.{Lane}
use Rattle.pipe_slots.specs.declared.phys_operator.PhysOperator.{PhysOperator}
use Rattle.pipe_table.specs.declared.spec.JoinSpec.{JoinSpec}
use Rattle.pipe_slots.specs.JoinWords.{suits_join, parts_in, part_in}
use Rattle.pipe_slots.specs.declared.probe_kind.ProbeKind.{ProbeKind}
use Rattle.pipe_slots.specs.declared.probe_kind.ProbeKind.TheVariants.{Joins, Crosses, Fulls, Marks}
use Rattle.pipe_slots.specs.Kinds.{kind_of}
use Rattle.pipe_slots.specs.SlotTables.{slot_at, seats_at, IsClosedAs}
use Rattle.pipe_slots.specs.declared.slot.Slot.{Slot}
use Rattle.pipe_slots.specs.declared.slot.Slot.TheVariants as slot
use Rattle.pipe_slots.specs.declared.slots.Slots.{Slots}
use Rattle.pipe_passage.specs.LaneSeats.{sum_of, IsRest, HasSeats}
use Rattle.pipe_passage.specs.Passages.{phys_words, acts_now, GivesSchemas, IsPassing, HasLeft, noted}
use Rattle.pipe_passage.specs.Passages as passages
use Rattle.pipe_passage.specs.declared.passage.Passage.{Passage}
use Rattle.pipe_driver.specs.Along.{AllMakeOf, more_of, come_to}
use Rattle.pipe_driver.specs.Tables.{number_at}
use Rattle.pipe_engine.specs.Carried.{IsBack, Carried, ReadsNothing, first_node}
use Rattle.pipe_engine.specs.Engine.{IsBare, IsTabled, SlotFits, IsRowStage, StageFits, StagesFit, LegFits, LegFitsOrNone, Fits, AreCounted, IsAdded, IsBefore, rows_of_leg, rows_of_sink, sink_at, rows_for, nodes_before, behind, join_work}
use Rattle.pipe_engine.specs.Passed.{with_more}
use Rattle.pipe_slots.specs.Sinks.{SinkSetting, setting_in, sink_rows}
use Rattle.pipe_run.specs.declared.note.Note.{Note}
use Rattle.pipe_slots.specs.SinkWords.{sink_words}
use Rattle.pipe_engine.specs.Stands.{Settings}
use Rattle.pipe_engine.specs.declared.engine.Engine.{Engine}
use Rattle.pipe_engine.specs.declared.engine.OpenLeg.{OpenLeg}
use Rattle.pipe_slots.specs.declared.phys_sink.PhysSink.{PhysSink}
use Rattle.pipe_engine.proofs.Carrying.{carry, map_length}
use Rattle.pipe_driver.proofs.Flowing.{arrived, more_none, not_on, first_apart}
use Rattle.pipe_engine.proofs.Counted.{leave_counted, settle_counted}
use Rattle.pipe_engine.proofs.Legs.{with_given, with_leg, probed_off, into_sink, beside_sink}
use Rattle.pipe_engine.proofs.Owning.{kind_owns}
use Rattle.pipe_engine.proofs.Stages.{stages_pass, same_stages, works_make, all_give, slot_stays, table_stands}
use Rattle.pipe_engine.proofs.Wholes.{gone_whole}

-- ---- the first stage

none_suits : (H : Type 0) (kind : ProbeKind) (spec : JoinSpec) → suits_join {H = H} kind spec slot.Empty → ⊥
none_suits H Joins spec h = h
none_suits H Crosses spec h = h
none_suits H Fulls spec h = h
none_suits H Marks spec h = h

no_empty : {H : Type 0} (x : Settings H) (m : Meaning) (w : World) (n : ℕ) (acts : Acts) → IsTabled x m w n slot.Empty acts → ⊥
no_empty {H = H} x m w n acts is = none_suits H (kind_of (x.spec_at n).how (x.spec_at n).swapped) (x.spec_at n) is.suits

-- what the first stage read stands in its slot as before
back_fits : {H : Type 0} (x : Settings H) (m : Meaning) (w : World) (given n : ℕ) (k : Work) (s t : Slot H) (seats now : List SeatMarks) → StageFits x m w given n k s (sum_of seats) → t ≡ s → ((s ≡ slot.Empty → ⊥) → now ≡ seats) → SlotFits x m w n t (sum_of now)
back_fits {H = H} x m w given n k s t seats now is same same_seats = by_test (SlotFits x m w n t (sum_of now)) (m.is_join n)
    (λ join. (let j = is.1 join in
    let some : s ≡ slot.Empty → ⊥ = λ e. (let P : Slot H → Type 0 = λ z. IsTabled x m w n z (sum_of seats) in no_empty x m w n (sum_of seats) (subst P e j.table)) in
    let P : Slot H → Type 0 = λ z. SlotFits x m w n z (sum_of now) in
    let Q : List SeatMarks → Type 0 = λ z. SlotFits x m w n s (sum_of z) in
    subst P (sym same) (subst Q (sym (same_seats some)) (table_stands x m w n s (sum_of seats) j.table))))
    (λ not. (let r = is.0 not in
    let P : Slot H → Type 0 = λ z. SlotFits x m w n z (sum_of now) in
    subst P (sym (same ∙ r.1)) r.0.bare))

-- ---- a node is left

-- a leg without its first stage
abbrev pub later : {H : Type 0} → OpenLeg H → Passage H (PhysSink H) → OpenLeg H
later leg p = record leg { passage = p }

-- what is known of a leg behind its first node
pub record Behind {H : Type 0} (hash_of : H → List ℕ → ℕ) (x : Settings H) (m : Meaning) (w : World) (leg : OpenLeg H) (lanes : List (Lane (PhysOperator H) (PhysSink H))) (ss : List (Slot H)) (free : List (List SeatMarks)) (slot : Slot H) (seats : List SeatMarks) (node given : ℕ) (now : List ℕ) (next : List Field) : Type 0 where
  pub above : m.above node ≡ now
  pub above_sink : m.above_sink node ≡ sink_node m.ordered leg.at
  pub schema : next ≡ x.schema_at node
  pub nodes : nodes_in lanes ≡ node ∷ now
  pub off : occurs node now ≡ 0
  pub work : Work
  pub first : StageFits x m w given node work slot (sum_of seats)
  pub others : StagesFit x m w node now (works_in (phys_words hash_of) next ss lanes) ss (acts_now hash_of lanes free)

tail_of : (a b : ℕ) (xs ys : List ℕ) → a ∷ xs ≡ b ∷ ys → xs ≡ ys
tail_of a b xs ys e = ap behind e

pub left_behind : {H : Type 0} (hash_of : H → List ℕ → ℕ) (x : Settings H) (m : Meaning) (w : World) (limit : ℕ) (leg : OpenLeg H) (lanes : List (Lane (PhysOperator H) (PhysSink H))) (ss : List (Slot H)) (free : List (List SeatMarks)) (s : Slot H) (seats : List SeatMarks) (node given : ℕ) (now : List ℕ)
    → IsSoundMeaning m → m.above given ≡ node ∷ now → m.above_sink given ≡ sink_node m.ordered leg.at → nodes_in leg.passage.lanes.items ≡ given ∷ m.above given
    → All (GivesSchemas (x.schema_at given) (map x.schema_at (m.above given))) leg.passage.lanes.items
    → StagesFit x m w given (m.above given) (works_in (phys_words hash_of) (x.schema_at given) leg.passage.shared.items leg.passage.lanes.items) leg.passage.shared.items (acts_now hash_of leg.passage.lanes.items leg.passage.seats.items)
    → (left : HasLeft hash_of sink_words limit (x.schema_at given) s seats leg.passage.lanes.items lanes leg.passage.shared.items ss leg.passage.seats.items free)
    → Behind hash_of x m w leg lanes ss free s seats node given now left.next
left_behind {H = H} hash_of x m w limit leg lanes ss free s seats node given now sound above above_sink nodes gives stages left =
    let go = sound.chained given node now above in
    let sink = sink_node m.ordered leg.at in
    let are = alike_from m given (node ∷ now) sink sound above above_sink in
    let G : List ℕ → Type 0 = λ z. All (GivesSchemas (x.schema_at given) (map x.schema_at z)) leg.passage.lanes.items in
    let known = left.gives (x.schema_at node) (map x.schema_at now) (subst G above gives) in
    let nodes_are : nodes_in lanes ≡ node ∷ now = tail_of left.node given (nodes_in lanes) (node ∷ now) (sym left.nodes ∙ nodes ∙ ap (λ z. given ∷ z) above) in
    let ks = works_in (phys_words hash_of) (x.schema_at given) leg.passage.shared.items leg.passage.lanes.items in
    let old_acts = acts_now hash_of leg.passage.lanes.items leg.passage.seats.items in
    let new_acts = acts_now hash_of lanes free in
    let new_ks = works_in (phys_words hash_of) left.next ss lanes in
    let A : List ℕ → Type 0 = λ z. StagesFit x m w given z ks leg.passage.shared.items old_acts in
    let K : List Work → Type 0 = λ z. StagesFit x m w given (node ∷ now) z leg.passage.shared.items old_acts in
    let S : List (Slot H) → Type 0 = λ z. StagesFit x m w given (node ∷ now) (left.work ∷ new_ks) z old_acts in
    let all = same_stages x m w given (node ∷ now) (left.work ∷ new_ks) (s ∷ ss) old_acts (sum_of seats ∷ new_acts) left.acts (subst S left.shared (subst K left.works (subst A above stages))) in
    record {
      above = go.0;
      above_sink = go.1 ∙ above_sink;
      schema = known.0;
      nodes = nodes_are;
      off = first_apart m sink node now are;
      work = left.work;
      first = all.0;
      others = all.1;
    }

rest_back : {H : Type 0} (s t : Slot H) (seats now : List SeatMarks) → IsRest 0 s seats → t ≡ s → ((s ≡ slot.Empty → ⊥) → now ≡ seats) → IsRest 0 t now
rest_back {H = H} slot.Empty t seats now is same same_seats = let P : Slot H → Type 0 = λ z. IsRest 0 z now in subst P (sym same) tt
rest_back {H = H} (slot.Keys u) t seats now is same same_seats = let P : Slot H → Type 0 = λ z. IsRest 0 z now in subst P (sym same) tt
rest_back {H = H} (slot.Rows u) t seats now is same same_seats = let P : Slot H → Type 0 = λ z. IsRest 0 z now in subst P (sym same) tt
rest_back {H = H} (slot.Full u) t seats now is same same_seats =
    let P : Slot H → Type 0 = λ z. IsRest 0 z now in
    let Q : List SeatMarks → Type 0 = λ z. IsRest 0 (slot.Full u) z in
    subst P (sym same) (subst Q (sym (same_seats (λ e. (let f : slot.Full u ≡ slot.Empty = e in cc)))) is)
rest_back {H = H} slot.Spent t seats now is same same_seats = let P : Slot H → Type 0 = λ z. IsRest 0 z now in subst P (sym same) tt

pub leg_of : {H : Type 0} (hash_of : H → List ℕ → ℕ) (x : Settings H) (m : Meaning) (w : World) (e : Engine H) (leg : OpenLeg H) → Fits hash_of e x m w → e.leg ≡ Some leg → LegFits hash_of x m w e.context leg
leg_of {H = H} hash_of x m w e leg fits is = let P : Option (OpenLeg H) → Type 0 = LegFitsOrNone hash_of x m w e.context in subst P is fits.leg

pub before_of : {H : Type 0} (leg : Option (OpenLeg H)) (opened : OpenLeg H) (now : List ℕ) (at : SinkAt) → leg ≡ Some opened → IsBefore leg now at → (behind (nodes_in opened.passage.lanes.items) ≡ now) × (opened.at ≡ at)
before_of {H = H} leg opened now at is before = let P : Option (OpenLeg H) → Type 0 = λ z. IsBefore z now at in subst P is before

pub none_on : (k node : ℕ) (now : List ℕ) → (k ≡ node → ⊥) → occurs k now ≡ 0 → occurs k (node ∷ now) ≡ 0
none_on k node now ne off = let z = ap one (eq-false node k (λ e. ne (sym e))) in omega arith

enough_first : {H : Type 0} (lanes : ℕ) (ss : List (Slot H)) (s : Slot H) (rest : List (Slot H)) → ss ≡ s ∷ rest → AllByRecursion (HasSeats lanes) ss → HasSeats lanes s × AllByRecursion (HasSeats lanes) rest
enough_first {H = H} lanes ss s rest e is = let P : List (Slot H) → Type 0 = AllByRecursion (HasSeats lanes) in subst P e is

noted_long : {O K : Type 0} (old new : List (Lane O K)) → map noted new ≡ map noted old → length new ≡ length old
noted_long old new e = sym (map_length noted new) ∙ ap length e ∙ map_length noted old

pub leave_fits : {H : Type 0} (hash_of : H → List ℕ → ℕ) (x : Settings H) (old : Engine H) (leg : OpenLeg H) (p : Passage H (PhysSink H)) (s : Slot H) (seats : List SeatMarks) (slots : Slots H) (given : Vec ℕ) (node : ℕ)
    → old.leg ≡ Some leg
    → IsAdded (first_node (nodes_in leg.passage.lanes.items)) (number_at (counts_in leg.passage.lanes.items) 0) old.context.row_limit old.given.items given.items
    → ((limit : ℕ) (from : List Field) → IsPassing hash_of sink_words limit from leg.passage.lanes.items leg.passage.shared.items leg.passage.seats.items → HasLeft hash_of sink_words limit from s seats leg.passage.lanes.items p.lanes.items leg.passage.shared.items p.shared.items leg.passage.seats.items p.seats.items)
    → IsBack node s seats old.slots slots
    → Leaves node (Fits hash_of old x) (Fits hash_of (with_leg (with_given old given) slots (Some (later leg p)) old.next_index old.journal) x) (IsBefore old.leg) (IsBefore (Some (later leg p)))
leave_fits {H = H} hash_of x old leg p s seats slots given node opened added lefts back m w now at fits before =
    let sound = fits.sound in
    let was = leg_of hash_of x m w old leg fits opened in
    let known = before_of old.leg leg (node ∷ now) at opened before in
    let above : m.above was.given ≡ node ∷ now = ap behind (sym was.nodes) ∙ known.0 in
    let left = lefts old.context.row_limit (x.schema_at was.given) was.passing in
    let b = left_behind hash_of x m w old.context.row_limit leg p.lanes.items p.shared.items p.seats.items s seats node was.given now sound above was.above_sink was.nodes was.gives was.stages left in
    let on : nodes_before old.leg ≡ node ∷ now = ap nodes_before opened ∙ known.0 in
    let enough = enough_first old.context.workers leg.passage.shared.items s p.shared.items left.shared was.enough in
    let apart : (k : ℕ) → 0 < occurs k now → k ≢ node = λ k some e. (let z = b.off in let q = ap (λ i. occurs i now) e in absurd (omega arith)) in
    let here : one (node == node) ≡ 1 = ap one (eq-true node node refl) in (
      record {
        sound = sound;
        parts = fits.parts;
        some = fits.some;
        few = fits.few;
        ordered = fits.ordered;
        nodes = back.count ∙ fits.nodes;
        seated = back.seats_count ∙ fits.seated;
        workers = back.workers ∙ fits.workers;
        places = fits.places;
        given = added.long ∙ fits.given;
        counted =
            (let C : Option (OpenLeg H) → Type 0 = λ l. AreCounted old.given.items l old.context.row_limit w in
            leave_counted old.given.items given.items leg (later leg p) old.context.row_limit w left.node left.given (subst C opened fits.counted) left.nodes left.counts added);
        sinks = λ t. (
            let L : Option (OpenLeg H) → Type 0 = λ l. SameBag (w.there (Into t)) (rows_of_sink (sink_at old.sinks.items t) ++ rows_for m l t) in
            let R : List Row → Type 0 = λ r. SameBag (w.there (Into t)) (rows_of_sink (sink_at old.sinks.items t) ++ cond (t == sink_node m.ordered leg.at) r []) in
            subst R (sym left.held) (subst L opened (fits.sinks t)));
        kept = fits.kept;
        slots = λ k off. (
            let gone : occurs k now ≡ 0 = ap (λ z. occurs k (behind z)) (sym b.nodes) ∙ off in
            by_test (SlotFits x m w k (slot_at slots.slots.items k) (sum_of (seats_at slots.seats.items k))) (k == node)
            (λ e. (let same = eq-is k node e in
            let N : ℕ → Type 0 = λ z. SlotFits x m w z (slot_at slots.slots.items z) (sum_of (seats_at slots.seats.items z)) in
            subst N (sym same) (back_fits x m w was.given node b.work s (slot_at slots.slots.items node) seats (seats_at slots.seats.items node) b.first back.here back.seats_here)))
            (λ e. (let ne = eq-not k node e in
            let P : Slot H → Type 0 = λ z. SlotFits x m w k z (sum_of (seats_at slots.seats.items k)) in
            let Q : List SeatMarks → Type 0 = λ z. SlotFits x m w k (slot_at old.slots.slots.items k) (sum_of z) in
            subst P (sym (back.slots k ne)) (subst Q (sym (back.free k ne)) (fits.slots k (ap (occurs k) on ∙ none_on k node now ne gone))))));
        rest = λ k. by_test (IsRest 0 (slot_at slots.slots.items k) (seats_at slots.seats.items k)) (k == node)
            (λ e. (let N : ℕ → Type 0 = λ z. IsRest 0 (slot_at slots.slots.items z) (seats_at slots.seats.items z) in
            subst N (sym (eq-is k node e)) (rest_back s (slot_at slots.slots.items node) seats (seats_at slots.seats.items node) left.all_in back.here back.seats_here)))
            (λ e. (let ne = eq-not k node e in
            let P : Slot H → Type 0 = λ z. IsRest 0 z (seats_at slots.seats.items k) in
            let Q : List SeatMarks → Type 0 = λ z. IsRest 0 (slot_at old.slots.slots.items k) z in
            subst P (sym (back.slots k ne)) (subst Q (sym (back.free k ne)) (fits.rest k))));
        enough = λ k. by_test (HasSeats old.context.workers (slot_at slots.slots.items k)) (k == node)
            (λ e. (let P : Slot H → Type 0 = HasSeats old.context.workers in
            let N : ℕ → Type 0 = λ z. HasSeats old.context.workers (slot_at slots.slots.items z) in
            subst N (sym (eq-is k node e)) (subst P (sym back.here) enough.0)))
            (λ e. (let P : Slot H → Type 0 = HasSeats old.context.workers in subst P (sym (back.slots k (eq-not k node e))) (fits.enough k)));
        taken = λ k some. (
            let still : 0 < occurs k now = (let e = ap (λ z. occurs k (behind z)) b.nodes in omega arith) in
            let ne = apart k still in
            back.slots k ne ∙ fits.taken k (let e = ap (occurs k) on in omega arith));
        leg = record {
          given = node;
          nodes = b.nodes ∙ ap (λ z. node ∷ z) (sym b.above);
          run = λ chains. chains.next was.given node now above;
          above_sink = b.above_sink;
          passing = (let P : List Field → Type 0 = λ z. IsPassing hash_of sink_words old.context.row_limit z p.lanes.items p.shared.items p.seats.items in subst P b.schema left.passing);
          gives = (let G : List Field → Type 0 = λ z. All (GivesSchemas z (map x.schema_at now)) p.lanes.items in
              let A : List ℕ → Type 0 = λ z. All (GivesSchemas (x.schema_at node) (map x.schema_at z)) p.lanes.items in
              let F : List ℕ → Type 0 = λ z. All (GivesSchemas (x.schema_at was.given) (map x.schema_at z)) leg.passage.lanes.items in
              subst A (sym b.above) (subst G b.schema (left.gives (x.schema_at node) (map x.schema_at now) (subst F above was.gives)).1));
          stages = (let P : List Field → Type 0 = λ z. StagesFit x m w node now (works_in (phys_words hash_of) z p.shared.items p.lanes.items) p.shared.items (acts_now hash_of p.lanes.items p.seats.items) in
              let A : List ℕ → Type 0 = λ z. StagesFit x m w node z (works_in (phys_words hash_of) (x.schema_at node) p.shared.items p.lanes.items) p.shared.items (acts_now hash_of p.lanes.items p.seats.items) in
              subst A (sym b.above) (subst P b.schema b.others));
          enough = enough.1;
          setting = was.setting;
          lanes = left.settings (x.setting_at leg.at) was.lanes;
          ends = was.ends;
          empty = was.empty;
          whole = gone_whole (m.above was.given) now (m.above node) node (rows_of_leg leg.passage) (rows_of_leg p) leg.whole above was.whole;
          place = was.place;
          few = (let long = noted_long leg.passage.lanes.items p.lanes.items left.entries in let most = was.few in omega arith);
        };
      },
      (ap behind b.nodes, known.1),
    )

-- ---- a node is settled

slot_other : (n k : ℕ) (w : World) → (k ≡ n → ⊥) → (spent_at n w).slot k ≡ w.slot k
slot_other n k w ne = ap (λ b. cond b (spent (w.slot k)) (w.slot k)) (eq-false k n ne)

pub slot_here : (n : ℕ) (w : World) → (spent_at n w).slot n ≡ spent (w.slot n)
slot_here n w = ap (λ b. cond b (spent (w.slot n)) (w.slot n)) (eq-true n n refl)

bare_spent : (m : Meaning) (w : World) (n k : ℕ) → (k ≡ n → ⊥) → IsBare m w k → IsBare m (spent_at n w) k
bare_spent m w n k ne is = record { waits = slot_other n k w ne ∙ is.waits; there = is.there; gained = is.gained }

table_spent : {H : Type 0} (x : Settings H) (m : Meaning) (w : World) (n k : ℕ) (s : Slot H) (acts : Acts) → (k ≡ n → ⊥) → IsTabled x m w k s acts → IsTabled x m (spent_at n w) k s acts
table_spent x m w n k s acts ne is = record { join = is.join; suits = is.suits; built = is.built; has = slot_other n k w ne ∙ is.has; rows = is.rows; marked = is.marked; gained = is.gained }

pub slot_spent : {H : Type 0} (x : Settings H) (m : Meaning) (w : World) (n k : ℕ) (s : Slot H) (acts : Acts) → (k ≡ n → ⊥) → SlotFits x m w k s acts → SlotFits x m (spent_at n w) k s acts
slot_spent x m w n k slot.Empty acts ne is = bare_spent m w n k ne is
slot_spent x m w n k (slot.Keys t) acts ne is = table_spent x m w n k (slot.Keys t) acts ne is
slot_spent x m w n k (slot.Rows f) acts ne is = table_spent x m w n k (slot.Rows f) acts ne is
slot_spent x m w n k (slot.Full t) acts ne is = table_spent x m w n k (slot.Full t) acts ne is
slot_spent x m w n k slot.Spent acts ne is = (is.0, slot_other n k w ne ∙ is.1)

stage_spent : {H : Type 0} (x : Settings H) (m : Meaning) (w : World) (n given k : ℕ) (work : Work) (s : Slot H) (acts : Acts) → (k ≡ n → ⊥) → StageFits x m w given k work s acts → StageFits x m (spent_at n w) given k work s acts
stage_spent x m w n given k work s acts ne is = (
  (λ not. (let r = is.0 not in (record { join = r.0.join; each = r.0.each; asks = r.0.asks; gains = r.0.gains; bare = bare_spent m w n k ne r.0.bare }, r.1))),
  (λ join. (let j = is.1 join in record { join = j.join; probed = j.probed; work_is = j.work_is; table = table_spent x m w n k s acts ne j.table })),
)

pub stages_spent : {H : Type 0} (x : Settings H) (m : Meaning) (w : World) (n given : ℕ) (ops : List ℕ) (ks : List Work) (ss : List (Slot H)) (acts : List Acts) → occurs n ops ≡ 0 → StagesFit x m w given ops ks ss acts → StagesFit x m (spent_at n w) given ops ks ss acts
stages_spent x m w n given [] [] [] [] off is = tt
stages_spent x m w n given [] [] [] (a ∷ acts) off is = absurd is
stages_spent x m w n given [] [] (s ∷ ss) acts off is = absurd is
stages_spent x m w n given [] (k ∷ ks) ss acts off is = absurd is
stages_spent x m w n given (o ∷ ops) [] ss acts off is = absurd is
stages_spent x m w n given (o ∷ ops) (k ∷ ks) [] acts off is = absurd is
stages_spent x m w n given (o ∷ ops) (k ∷ ks) (s ∷ ss) [] off is = absurd is
stages_spent x m w n given (o ∷ ops) (k ∷ ks) (s ∷ ss) (a ∷ acts) off is =
    let apart : o ≡ n → ⊥ = λ e. (let t : one (o == n) ≡ 1 = ap one (eq-true o n e) in absurd (omega arith)) in
    (stage_spent x m w n given o k s a apart is.0, stages_spent x m w n o ops ks ss acts (omega arith) is.1)

-- what the node has of its own
pub owns : {H : Type 0} (hash_of : H → List ℕ → ℕ) (x : Settings H) (m : Meaning) (w : World) (given node : ℕ) (work : Work) (s closed : Slot H) (seats : List SeatMarks) → IsSoundMeaning m → 0 < x.parts → StageFits x m w given node work s (sum_of seats) → IsRest 0 s seats → IsClosedAs s seats closed
    → (m.is_join node ≡ true → SameBag (w.there (OutOf (m.probed node))) (m.rows (m.probed node))) → SameBag (m.own node) (w.gained node ++ rows_of_parts parts_in (part_in hash_of) closed)
owns {H = H} hash_of x m w given node work s closed seats sound some is rest closes seen =
    let spec = x.spec_at node in
    by_test (SameBag (m.own node) (w.gained node ++ rows_of_parts parts_in (part_in hash_of) closed)) (m.is_join node)
    (λ join. (let t = (is.1 join).table in
    kind_owns hash_of x (kind_of spec.how spec.swapped) spec s closed seats (m.own node) (w.gained node) (w.there (OutOf (m.probed node))) (m.rows (m.probed node)) (m.below node) refl t.suits t.join.good t.rows t.marked t.gained t.join.own (seen join) some t.built rest closes))
    (λ not. (let r = is.0 not in
    let P : Slot H → Type 0 = λ z. IsClosedAs z seats closed in
    let none : rows_of_parts parts_in (part_in hash_of) closed ≡ [] = ap (rows_of_parts parts_in (part_in hash_of)) (subst P r.1 closes) in
    SameBag-trans (SameBag-from_equal (sound.only node not)) (SameBag-append r.0.bare.gained (SameBag-from_equal (sym none)))))

-- its slot is spent, where it is a join
pub record IsSpentAt {H : Type 0} (node : ℕ) (nothing : Bool) (ss : List (Slot H)) (old new : Slots H) : Type 0 where
  pub reads : ReadsNothing nothing ss
  pub empty : nothing ≡ true → slot_at new.slots.items node ≡ slot_at old.slots.items node
  pub spent : nothing ≡ false → slot_at new.slots.items node ≡ slot.Spent
  pub slots : (k : ℕ) → (k ≡ node → ⊥) → slot_at new.slots.items k ≡ slot_at old.slots.items k
  pub seats : new.seats ≡ old.seats
  pub count : length new.slots.items ≡ length old.slots.items
  pub workers : new.workers ≡ old.workers

reads_empty : {H : Type 0} (nothing : Bool) (ss rest : List (Slot H)) (s : Slot H) → ss ≡ s ∷ rest → ReadsNothing nothing ss → s ≡ slot.Empty → nothing ≡ true
reads_empty {H = H} true ss rest s e r same = refl
reads_empty {H = H} false ss rest s e r same = absurd (let P : List (Slot H) → Type 0 = ReadsNothing false in (subst P e r) same)

reads_some : {H : Type 0} (nothing : Bool) (ss rest : List (Slot H)) (s : Slot H) → ss ≡ s ∷ rest → ReadsNothing nothing ss → (s ≡ slot.Empty → ⊥) → nothing ≡ false
reads_some {H = H} true ss rest s e r ne = absurd (let P : List (Slot H) → Type 0 = ReadsNothing true in ne (subst P e r))
reads_some {H = H} false ss rest s e r ne = refl

-- what stands in its slot then
here_fits : {H : Type 0} (x : Settings H) (m : Meaning) (w : World) (came : Place → List Row) (more : ℕ → List Row) (given node : ℕ) (work : Work) (s t u : Slot H) (ss rest : List (Slot H)) (seats : List SeatMarks) (acts : Acts) (nothing : Bool)
    → StageFits x m w given node work s (sum_of seats) → ss ≡ s ∷ rest → ReadsNothing nothing ss → (nothing ≡ true → t ≡ u) → (nothing ≡ false → t ≡ slot.Spent) → u ≡ slot.Empty → SameBag [] (more node) → SlotFits x m (with_more (spent_at node w) came more) node t acts
here_fits {H = H} x m w came more given node work s t u ss rest seats acts nothing is first reads same spends empty none =
    let P : Slot H → Type 0 = λ z. SlotFits x m (with_more (spent_at node w) came more) node z acts in
    by_test (SlotFits x m (with_more (spent_at node w) came more) node t acts) (m.is_join node)
    (λ join. (let j = is.1 join in
    let ne : s ≡ slot.Empty → ⊥ = λ e. (let Q : Slot H → Type 0 = λ z. IsTabled x m w node z (sum_of seats) in no_empty x m w node (sum_of seats) (subst Q e j.table)) in
    subst P (sym (spends (reads_some nothing ss rest s first reads ne))) (join, slot_here node w ∙ ap spent j.table.has)))
    (λ not. (let r = is.0 not in
    subst P (sym (same (reads_empty nothing ss rest s first reads r.1) ∙ empty)) (record {
      waits = slot_here node w ∙ ap spent r.0.bare.waits;
      there = λ join. absurd (not-both (m.is_join node) join not);
      gained = SameBag-append r.0.bare.gained none;
    })))

unjoined_rest : {H : Type 0} (nothing : Bool) (t u : Slot H) (v : List SeatMarks) → (nothing ≡ true → t ≡ u) → (nothing ≡ false → t ≡ slot.Spent) → u ≡ slot.Empty → IsRest 0 t v
unjoined_rest {H = H} true t u v same spends empty = let P : Slot H → Type 0 = λ z. IsRest 0 z v in subst P (sym (same refl ∙ empty)) tt
unjoined_rest {H = H} false t u v same spends empty = let P : Slot H → Type 0 = λ z. IsRest 0 z v in subst P (sym (spends refl)) tt

unjoined_seats : {H : Type 0} (lanes : ℕ) (nothing : Bool) (t u : Slot H) → (nothing ≡ true → t ≡ u) → (nothing ≡ false → t ≡ slot.Spent) → u ≡ slot.Empty → HasSeats lanes t
unjoined_seats {H = H} lanes true t u same spends empty = let P : Slot H → Type 0 = HasSeats lanes in subst P (sym (same refl ∙ empty)) tt
unjoined_seats {H = H} lanes false t u same spends empty = let P : Slot H → Type 0 = HasSeats lanes in subst P (sym (spends refl)) tt

more_into : (there kept held mid now out came : List Row) → SameBag there (kept ++ held) → mid ≡ held → SameBag now (mid ++ out) → SameBag out came → SameBag (there ++ came) (kept ++ now)
more_into there kept held mid now out came h same k l = record {
  sums = λ f. (
      let a = h.sums f in let b = k.sums f in let c = l.sums f in
      let z = ap (total f) same in
      let e1 = total-append f there came in
      let e2 = total-append f kept held in
      let e3 = total-append f mid out in
      let e4 = total-append f kept now in omega arith);
}

pub settle_fits : {H : Type 0} (hash_of : H → List ℕ → ℕ) (x : Settings H) (old : Engine H) (leg : OpenLeg H) (p : Passage H (PhysSink H)) (slots : Slots H) (counts : Vec ℕ) (node : ℕ) (nothing : Bool) (from : List Field) (parts : ℕ) (notes notes' : List Note) (journal : Vec Event)
    → old.leg ≡ Some leg
    → IsAdded (first_node (nodes_in leg.passage.lanes.items)) (number_at (counts_in leg.passage.lanes.items) 0) old.context.row_limit old.given.items counts.items
    → ((given : ℕ) (ops : List ℕ) → nodes_in leg.passage.lanes.items ≡ given ∷ ops → from ≡ x.schema_at given)
    → passages.HasSettled hash_of sink_words old.context.row_limit from leg.passage.lanes.items p.lanes.items leg.passage.shared.items p.shared.items leg.passage.seats.items p.seats.items parts notes notes'
    → IsSpentAt node nothing leg.passage.shared.items old.slots slots
    → Settles node (Fits hash_of old x) (Fits hash_of (with_leg (with_given old counts) slots (Some (later leg p)) old.next_index journal) x) (IsBefore old.leg) (IsBefore (Some (later leg p)))
settle_fits {H = H} hash_of x old leg p slots counts node nothing from parts notes notes' journal opened added from_is settled spends m w now at fits before above_node seen built =
    let sound = fits.sound in
    let limit = old.context.row_limit in
    let was = leg_of hash_of x m w old leg fits opened in
    let known = before_of old.leg leg (node ∷ now) at opened before in
    let above : m.above was.given ≡ node ∷ now = ap behind (sym was.nodes) ∙ known.0 in
    let schema : from ≡ x.schema_at was.given = from_is was.given (m.above was.given) was.nodes in
    let W : List Field → Type 0 = λ z. passages.HasSettled hash_of sink_words limit z leg.passage.lanes.items p.lanes.items leg.passage.shared.items p.shared.items leg.passage.seats.items p.seats.items parts notes notes' in
    let done = subst W schema settled in
    let left = done.left in
    let s = done.slot in
    let seats = done.seats in
    let ss = p.shared.items in
    let free = p.seats.items in
    let b = left_behind hash_of x m w limit leg done.mid ss free s seats node was.given now sound above was.above_sink was.nodes was.gives was.stages left in
    let rows = rows_of_parts parts_in (part_in hash_of) done.closed in
    let own = owns hash_of x m w was.given node b.work s done.closed seats sound fits.some b.first left.all_in done.closes seen in
    let carried = carry hash_of limit left.next rows done.mid p.lanes.items ss free left.passing done.same done.passing.alike done.passing.fit done.passing.calm done.passing.within done.passing.noted_none done.went in
    let C : List Field → Type 0 = λ z. Carried hash_of limit z rows done.mid p.lanes.items ss free in
    let went : Carried hash_of limit (x.schema_at node) rows done.mid p.lanes.items ss free = subst C b.schema carried in
    let sink = sink_node m.ordered leg.at in
    let are = alike_from m node now sink sound b.above b.above_sink in
    let w0 = spent_at node w in
    let ks = works_in (phys_words hash_of) (x.schema_at node) ss done.mid in
    let acts0 = acts_now hash_of done.mid free in
    let acts1 = acts_now hash_of p.lanes.items free in
    let stages0 : StagesFit x m w0 node now ks ss acts0 =
    (let P : List Field → Type 0 = λ z. StagesFit x m w0 node now (works_in (phys_words hash_of) z ss done.mid) ss acts0 in
    subst P b.schema (stages_spent x m w node node now (works_in (phys_words hash_of) left.next ss done.mid) ss acts0 b.off b.others)) in
    let makes : AllMakeOf m now ks = works_make x m w0 node now ks ss acts0 stages0 in
    let acting = went.acts in
    let came = arrived m node sink now ks acting rows went.out sound b.above b.above_sink are makes went.flows in
    let more = more_of now ks acting in
    let c = come_to m node rows more in
    let new_w = with_more w0 c more in
    let stages1 : StagesFit x m new_w node now ks ss acts1 = stages_pass x m w0 c more node now ks ss acts0 acts1 acting stages0 went.grown came.marked (all_give m sink now ks acting are) in
    let nodes1 : nodes_in p.lanes.items ≡ node ∷ now = went.nodes ∙ b.nodes in
    let on : nodes_before old.leg ≡ node ∷ now = ap nodes_before opened ∙ known.0 in
    let none_more : (k : ℕ) → occurs k now ≡ 0 → SameBag [] (more k) = λ k off. SameBag-from_equal (sym (more_none now ks acting k off)) in
    let none_came : (k : ℕ) → occurs k now ≡ 0 → m.is_join k ≡ true → SameBag [] (c (OutOf (m.probed k))) = λ k off join. (let o = probed_off m node sink now k sound b.above are off join in came.apart (m.probed k) o.0 o.1) in
    let held1 = flat_map (held_in sink_rows) p.lanes.items in
    let held0 = flat_map (held_in sink_rows) leg.passage.lanes.items in
    let mid_held = flat_map (held_in sink_rows) done.mid in
    let enough = enough_first old.context.workers leg.passage.shared.items s ss left.shared was.enough in
    let here : one (node == node) ≡ 1 = ap one (eq-true node node refl) in
    let node_on : 0 < occurs node (nodes_before old.leg) = (let e = ap (occurs node) on in omega arith) in
    let seats_are = ap (λ (z : Vec (List SeatMarks)). z.items) spends.seats in (
      (record {
        new = new_w;
        fit = record {
          sound = sound;
          parts = fits.parts;
          some = fits.some;
          few = fits.few;
          ordered = fits.ordered;
          nodes = spends.count ∙ fits.nodes;
          seated = ap length seats_are ∙ fits.seated;
          workers = spends.workers ∙ fits.workers;
          places = fits.places;
          given = added.long ∙ fits.given;
          counted =
              (let C : Option (OpenLeg H) → Type 0 = λ l. AreCounted old.given.items l limit w in
              settle_counted old.given.items counts.items leg (later leg p) limit w node c more left.node left.given (node ∷ now) (counts_in done.mid) (counts_of ks acting rows)
              (subst C opened fits.counted) (left.nodes ∙ ap (λ z. left.node ∷ z) b.nodes) left.counts nodes1 went.counts came.counted added);
          sinks = λ t. (
              let L : Option (OpenLeg H) → Type 0 = λ l. SameBag (w.there (Into t)) (rows_of_sink (sink_at old.sinks.items t) ++ rows_for m l t) in
              let was_there = subst L opened (fits.sinks t) in
              let kept = rows_of_sink (sink_at old.sinks.items t) in
              let Q : Bool → Type 0 = λ z. SameBag (w.there (Into t)) (kept ++ cond z held0 []) → SameBag (w.there (Into t) ++ c (Into t)) (kept ++ cond z held1 []) in
              let T : ℕ → Type 0 = λ z. SameBag went.out (c (Into z)) in
              (by_test (Q (t == sink)) (t == sink)
              (λ e. subst Q (sym e) (λ h. more_into (w.there (Into t)) kept held0 mid_held held1 went.out (c (Into t)) h left.held (SameBag-from_rows went.held) (subst T (sym (eq-is t sink e)) came.sink)))
              (λ e. subst Q (sym e) (λ h. beside_sink (w.there (Into t)) kept (c (Into t)) h (came.elsewhere t (λ g. eq-not t sink e (sym g)))))) was_there);
          kept = fits.kept;
          slots = λ k off. (
              let gone : occurs k now ≡ 0 = ap (λ z. occurs k (behind z)) (sym nodes1) ∙ off in
              let F : List (List SeatMarks) → Type 0 = λ z. SlotFits x m new_w k (slot_at slots.slots.items k) (sum_of (seats_at z k)) in
              subst F (sym seats_are) (by_test (SlotFits x m new_w k (slot_at slots.slots.items k) (sum_of (seats_at old.slots.seats.items k))) (k == node)
              (λ e. (let N : ℕ → Type 0 = λ z. SlotFits x m new_w z (slot_at slots.slots.items z) (sum_of (seats_at old.slots.seats.items z)) in
              subst N (sym (eq-is k node e)) (here_fits x m w c more was.given node b.work s (slot_at slots.slots.items node) (slot_at old.slots.slots.items node) leg.passage.shared.items ss seats (sum_of (seats_at old.slots.seats.items node)) nothing b.first left.shared spends.reads spends.empty spends.spent (fits.taken node node_on) (none_more node b.off))))
              (λ e. (let ne = eq-not k node e in
              let P : Slot H → Type 0 = λ z. SlotFits x m new_w k z (sum_of (seats_at old.slots.seats.items k)) in
              subst P (sym (spends.slots k ne)) (slot_stays x m w0 c more k (slot_at old.slots.slots.items k) (sum_of (seats_at old.slots.seats.items k)) (slot_spent x m w node k (slot_at old.slots.slots.items k) (sum_of (seats_at old.slots.seats.items k)) ne (fits.slots k (ap (occurs k) on ∙ none_on k node now ne gone))) (none_came k gone) (none_more k gone))))));
          rest = λ k. (
              let F : List (List SeatMarks) → Type 0 = λ z. IsRest 0 (slot_at slots.slots.items k) (seats_at z k) in
              subst F (sym seats_are) (by_test (IsRest 0 (slot_at slots.slots.items k) (seats_at old.slots.seats.items k)) (k == node)
              (λ e. (let N : ℕ → Type 0 = λ z. IsRest 0 (slot_at slots.slots.items z) (seats_at old.slots.seats.items z) in
              subst N (sym (eq-is k node e)) (unjoined_rest nothing (slot_at slots.slots.items node) (slot_at old.slots.slots.items node) (seats_at old.slots.seats.items node) spends.empty spends.spent (fits.taken node node_on))))
              (λ e. (let P : Slot H → Type 0 = λ z. IsRest 0 z (seats_at old.slots.seats.items k) in subst P (sym (spends.slots k (eq-not k node e))) (fits.rest k)))));
          enough = λ k. by_test (HasSeats old.context.workers (slot_at slots.slots.items k)) (k == node)
              (λ e. (let N : ℕ → Type 0 = λ z. HasSeats old.context.workers (slot_at slots.slots.items z) in
              subst N (sym (eq-is k node e)) (unjoined_seats old.context.workers nothing (slot_at slots.slots.items node) (slot_at old.slots.slots.items node) spends.empty spends.spent (fits.taken node node_on))))
              (λ e. (let P : Slot H → Type 0 = HasSeats old.context.workers in subst P (sym (spends.slots k (eq-not k node e))) (fits.enough k)));
          taken = λ k some. (
              let still : 0 < occurs k now = (let e = ap (λ z. occurs k (behind z)) nodes1 in omega arith) in
              let ne : k ≢ node = λ e. (let z = b.off in let q = ap (λ i. occurs i now) e in absurd (omega arith)) in
              spends.slots k ne ∙ fits.taken k (let e = ap (occurs k) on in omega arith));
          leg = record {
            given = node;
            nodes = nodes1 ∙ ap (λ z. node ∷ z) (sym b.above);
            run = λ chains. chains.next was.given node now above;
            above_sink = b.above_sink;
            passing = went.passing;
            gives = (let G : List Field → Type 0 = λ z. All (GivesSchemas z (map x.schema_at now)) done.mid in
                let A : List ℕ → Type 0 = λ z. All (GivesSchemas (x.schema_at node) (map x.schema_at z)) p.lanes.items in
                let F : List ℕ → Type 0 = λ z. All (GivesSchemas (x.schema_at was.given) (map x.schema_at z)) leg.passage.lanes.items in
                subst A (sym b.above) (went.gives (map x.schema_at now) (subst G b.schema (left.gives (x.schema_at node) (map x.schema_at now) (subst F above was.gives)).1)));
            stages = (let A : List ℕ → Type 0 = λ z. StagesFit x m new_w node z (works_in (phys_words hash_of) (x.schema_at node) ss p.lanes.items) ss acts1 in
                let K : List Work → Type 0 = λ z. StagesFit x m new_w node now z ss acts1 in
                subst A (sym b.above) (subst K (sym went.works) stages1));
            enough = enough.1;
            setting = was.setting;
            lanes = went.settings (x.setting_at leg.at) (left.settings (x.setting_at leg.at) was.lanes);
            ends = was.ends;
            empty = was.empty;
            whole = gone_whole (m.above was.given) now (m.above node) node (rows_of_leg leg.passage) (rows_of_leg p) leg.whole above was.whole;
            place = was.place;
            few = (let long = noted_long leg.passage.lanes.items done.mid left.entries in let same = carried.long in let most = was.few in omega arith);
          };
        };
        is = record {
          flushed = rows;
          own = own;
          passed = record {
            more = more;
            only = λ k off. more_none now ks acting k (ap (occurs k) (sym b.above) ∙ off);
            there = λ y. SameBag-refl (w.there y ++ c y);
            gained = λ k. SameBag-refl (w.gained k ++ more k);
            slot = refl;
          };
        };
      }),
      (ap behind nodes1, known.1),
    )
