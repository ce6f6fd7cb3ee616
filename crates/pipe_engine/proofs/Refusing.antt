-- Where rows went a part of their way, or were counted as too many: the world in which all of them came.
use Rattle.std.proofs.Common.{◌≡◌, ◌≢◌, ℕ, ◌+◌, ◌<◌, ◌≤◌, Bool, true, false, cond, ◌==◌, List, [], ◌∷◌, ◌++◌, length, map, Option, Some, None, refl, sym, ap, subst, ◌∙◌, arith, inl, inr}
use Rattle.std.specs.List.{flat_map}
use Rattle.std.specs.Global.{Vec}
use Rattle.pipe_schema.specs.Rows.{Row}
use Rattle.pipe_schema.specs.declared.field.Field.{Field}
use Rattle.pipe_schema.proofs.Weights.{SameBag, SameBag-refl, SameBag-append, SameBag-from_equal, Same-from_bag}
use Rattle.pipe_driver.specs.declared.branch.SinkAt.{SinkAt}
use Rattle.pipe_chain.specs.Flags.{SeatMarks}
use Rattle.pipe_driver.specs.Meaning.{Meaning, OutOf}
use Rattle.pipe_driver.specs.Legs.{Leg, sink_node}
use Rattle.pipe_driver.specs.Ways.{one, occurs}
use Rattle.pipe_driver.proofs.Tests.{by_test, eq-is, eq-not, some-left}
use Rattle.pipe_driver.specs.State.{World, HasPassed, HasSettled, spent, spent_at}
use Rattle.pipe_driver.specs.Runner.{AreBuilt}
use Rattle.pipe_driver.specs.Refusals.{ComesToMany, IsOrSettles}
use Rattle.pipe_driver.specs.Tables.{number_at}
use Rattle.pipe_driver.specs.Within.{GivesNoMore, GivesMany}
use Rattle.pipe_driver.proofs.Sums.{alike_from}
use Rattle.pipe_source.specs.Supplies.{left_of}
use Rattle.pipe_source.specs.declared.phys_source.PhysSource.{PhysSource}
use Rattle.pipe_run.specs.Rounds.{left_rows}
use Rattle.pipe_chain.specs.Chain.{works_of}
use Rattle.pipe_chain.specs.Counts.{counts_of, plus}
use Rattle.pipe_chain.specs.Flow.{Work, Acts, Flows, added}
use Rattle.pipe_chain.proofs.FlowLemmas.{flows-same, grown-length}
use Rattle.pipe_chain.proofs.Weighing.{rows-refl}
use Rattle.pipe_run.specs.Dealt.{works_in, nodes_in, acts_in, counts_in, IsOverIn}
use Rattle.pipe_run.specs.Flushes.{rows_of_parts}
use Rattle.pipe_run.specs.Stages.{operators_of}
use Rattle.pipe_run.specs.declared.lane.Lane.{Lane}
use Rattle.pipe_run.specs.declared.stage.LaneFault.TheVariants as refusal
use Rattle.pipe_slots.specs.JoinWords.{parts_in, part_in}
use Rattle.pipe_slots.specs.SlotTables.{slot_at, seats_at}
use Rattle.pipe_slots.specs.declared.phys_operator.PhysOperator.{PhysOperator}
use Rattle.pipe_slots.specs.declared.slot.Slot.{Slot}
use Rattle.pipe_slots.specs.declared.slots.Slots.{Slots}
use Rattle.pipe_passage.specs.LaneSeats.{sum_of, AllSameActs}
use Rattle.pipe_passage.specs.Passages.{phys_words, acts_now, IsPassing, HasOpened}
use Rattle.pipe_passage.specs.Stopped.{AllOnce, HasBroken}
use Rattle.pipe_passage.specs.declared.passage.Passage.{Passage}
use Rattle.pipe_passage.proofs.Opened.{rest-length}
use Rattle.pipe_driver.specs.Along.{AllMakeOf, more_of, come_to, counted_at}
use Rattle.pipe_driver.proofs.Flowing.{arrived, both_many, more_none}
use Rattle.pipe_slots.specs.SinkWords.{sink_words}
use Rattle.pipe_slots.specs.declared.phys_sink.PhysSink.{PhysSink}
use Rattle.pipe_engine.specs.Carried.{first_node}
use Rattle.pipe_engine.specs.Engine.{Brings, AreCounted, SlotFits, StagesFit, Fits, IsBefore, behind, nodes_before}
use Rattle.pipe_engine.specs.Passed.{with_more}
use Rattle.pipe_engine.specs.Refused.{Broken, IsPast, SlotsOnce}
use Rattle.pipe_engine.specs.Stands.{Settings, StandsFor}
use Rattle.pipe_engine.specs.Taken.{own_seats, is_place, IsTaken}
use Rattle.pipe_engine.specs.declared.engine.Engine.{Engine}
use Rattle.pipe_engine.specs.declared.engine.OpenLeg.{OpenLeg}
use Rattle.pipe_engine.specs.declared.part.Part.{Part}
use Rattle.pipe_engine.proofs.Carrying.{all_grown_after, map_length, works_many}
use Rattle.pipe_engine.proofs.Counted.{counted_zero, counts_alike, first_counted}
use Rattle.pipe_engine.proofs.Legs.{probed_off, slot_kept}
use Rattle.pipe_engine.proofs.Nodes.{before_of, leg_of, left_behind, none_on, owns, slot_here, slot_spent, stages_spent}
use Rattle.pipe_engine.proofs.Opening.{nodes_are, place_off, stages_open}
use Rattle.pipe_engine.proofs.Parted.{all_below, all_below_refl, all_grown, at_head, filled, flows_filled, gone_out, nodes_run, over_by, over_on, parts_length}
use Rattle.pipe_engine.proofs.Spared.{nothing_gained, slot_gives, stages_give}
use Rattle.pipe_engine.proofs.Stages.{all_give, same_stages, slot_stays, stages_pass, works_make}

abbrev Lanes : Type 0 → Type 0
Lanes H = List (Lane (PhysOperator H) (PhysSink H))

-- ---- acts of lanes, with those of the seats that none holds

pub broken_of : {H : Type 0} (hash_of : H → List ℕ → ℕ) (limit : ℕ) (from : List Field) (rows : List Row) (old new : Lanes H) (ss : List (Slot H)) (free : List (List SeatMarks)) (node : ℕ) → IsPassing hash_of sink_words limit from old ss free
    → IsOverIn (phys_words hash_of) ss limit from rows old new (refusal.TooMany node) → Broken hash_of limit from rows old new ss free node
broken_of hash_of limit from rows old new ss free node was over =
    let broke = over.broke in
    let many = works_many hash_of limit from ss old was.some was.fit in
    let acts_long = grown-length (acts_in (phys_words hash_of) old) (acts_in (phys_words hash_of) new) broke.acts broke.grown in
    let long = parts_length (works_in (phys_words hash_of) from ss old) broke.acts over.tally rows broke.parts in
    let rest_long = rest-length (length old) ss free was.rest in
    let c_long = map_length sum_of free in
    record {
      acts = broke.acts;
      grown = all_grown_after (map sum_of free) (acts_in (phys_words hash_of) old) (acts_in (phys_words hash_of) new) broke.acts (omega arith) broke.grown;
      tally = over.tally;
      parts = broke.parts;
      told = over.told;
    }

-- ---- a leg

module _ {H : Type 0} (hash_of : H → List ℕ → ℕ) (x : Settings H) where
  pub leg_broken : (old : Engine H) (source : PhysSource) (part : Part H) (p : Passage H (PhysSink H)) (seats : List (List SeatMarks)) (lanes : Lanes H) (slots : Slots H) (from : List Field) (n : ℕ) (m : Meaning) (w : World) (start : ℕ) (leg : Leg)
      → IsTaken (operators_of part.stages.items) old.slots slots p.shared.items seats
      → HasOpened hash_of sink_words old.context.row_limit part.stages.items part.target p.shared.items seats p.seats.items p.lanes.items
      → ((first : ℕ) (ops : List ℕ) → nodes_in p.lanes.items ≡ first ∷ ops → from ≡ x.schema_at first)
      → Broken hash_of old.context.row_limit from (left_rows (left_of source)) p.lanes.items lanes p.shared.items p.seats.items n
      → SlotsOnce slots → AllOnce p.shared.items (acts_now hash_of lanes p.seats.items)
      → old.leg ≡ None → Fits hash_of old x m w → StandsFor part x m start leg → Brings source x m start → leg.operators ≡ m.above start → leg.sink ≡ m.above_sink start → AreBuilt m w leg.operators
      → ComesToMany m old.context.row_limit (HasPassed m start (m.rows start) w) n
  leg_broken old source part p seats lanes slots from n m w start leg taken opened from_is broken slots_once stages_once idle fits stands brings above above_sink built =
      let sound = fits.sound in
      let sts = part.stages.items in
      let b = part.target in
      let os = operators_of sts in
      let ops = leg.operators in
      let limit = old.context.row_limit in
      let at_is : part.at ≡ leg.at = stands.at in
      let s = sink_node m.ordered part.at in
      let sink_is : m.above_sink start ≡ s = sym above_sink ∙ stands.sink ∙ ap (sink_node m.ordered) (sym at_is) in
      let chain : m.above start ≡ ops = sym above in
      let are = alike_from m start ops s sound chain sink_is in
      let nodes0 : nodes_in p.lanes.items ≡ start ∷ ops = opened.nodes ∙ nodes_are x m start sts ops part.at b stands.stages in
      let schema : from ≡ x.schema_at start = from_is start ops nodes0 in
      let rows0 = left_rows (left_of source) in
      let rows = m.rows start in
      let P : List Field → Type 0 = λ z. Broken hash_of limit z rows0 p.lanes.items lanes p.shared.items p.seats.items n in
      let broke : Broken hash_of limit (x.schema_at start) rows0 p.lanes.items lanes p.shared.items p.seats.items n = subst P schema broken in
      let L : Option (OpenLeg H) → Type 0 = λ l. (j : ℕ) → occurs j (nodes_before l) ≡ 0 → SlotFits x m w j (slot_at old.slots.slots.items j) (sum_of (seats_at old.slots.seats.items j)) in
      let slots_fit : (j : ℕ) → SlotFits x m w j (slot_at old.slots.slots.items j) (sum_of (seats_at old.slots.seats.items j)) = λ j. (subst L idle fits.slots) j refl in
      let ss = p.shared.items in
      let ks = works_in (phys_words hash_of) (x.schema_at start) ss p.lanes.items in
      let acts0 = acts_now hash_of p.lanes.items p.seats.items in
      let acts1 = acts_now hash_of lanes p.seats.items in
      let stages0 : StagesFit x m w start ops ks ss acts0 =
      (let K : List Work → Type 0 = λ z. StagesFit x m w start ops z ss acts0 in
      let S : List (Slot H) → Type 0 = λ z. StagesFit x m w start ops (works_of (phys_words hash_of) (x.schema_at start) os z) z (map sum_of (map (own_seats old.slots.seats.items) os)) in
      let first = stages_open hash_of x m w start sts ops part.at b old.slots.slots.items old.slots.seats.items stands.stages slots_fit built in
      let A : List (List SeatMarks) → Type 0 = λ z. AllSameActs (map sum_of z) acts0 in
      subst K (sym (opened.works (x.schema_at start))) (same_stages x m w start ops (works_of (phys_words hash_of) (x.schema_at start) os ss) ss (map sum_of (map (own_seats old.slots.seats.items) os)) acts0 (subst A taken.seats_is opened.acts) (subst S (sym taken.shared_is) first))) in
      let makes : AllMakeOf m ops ks = works_make x m w start ops ks ss acts0 stages0 in
      let acting = filled ks broke.acts rows0 in
      let out = gone_out ks broke.acts rows0 in
      let flows : Flows ks acting rows out = flows-same ks acting rows0 rows out out (Same-from_bag brings.rows) (rows-refl out) (flows_filled ks broke.acts broke.tally rows0 broke.parts) in
      let came = arrived m start s ops ks acting rows out sound chain sink_is are makes flows in
      let more = more_of ops ks acting in
      let c = come_to m start rows more in
      let new_w = with_more w c more in
      let all = added acts0 acting in
      let stages1 : StagesFit x m new_w start ops ks ss all = stages_pass x m w c more start ops ks ss acts0 all acting stages0 (all_grown acts0 acts1 broke.acts ks broke.tally rows0 broke.grown broke.parts) came.marked (all_give m s ops ks acting are) in
      let below = all_below acts0 acts1 broke.acts ks broke.tally rows0 broke.grown broke.parts in
      let none_more : (j : ℕ) → occurs j ops ≡ 0 → SameBag [] (more j) = λ j off. SameBag-from_equal (sym (more_none ops ks acting j off)) in
      let none_came : (j : ℕ) → occurs j ops ≡ 0 → m.is_join j ≡ true → SameBag [] (c (OutOf (m.probed j))) = λ j off join. (let o = probed_off m start s ops j sound chain are off join in came.apart (m.probed j) o.0 o.1) in
      let N : List ℕ → Type 0 = λ ns. limit < counted_at n ns (counts_in p.lanes.items) + counted_at n ns (counts_of ks acting rows0) in
      let over : limit < counted_at n (start ∷ ops) (counts_in p.lanes.items) + counted_at n (start ∷ ops) (counts_of ks acting rows0) = subst N nodes0 (over_by limit n ks broke.acts broke.tally rows0 (counts_in p.lanes.items) (nodes_in p.lanes.items) broke.parts broke.told) in
      let on : 0 < occurs n (start ∷ ops) = (let O : List ℕ → Type 0 = λ ns. 0 < occurs n ns in subst O nodes0 (over_on limit n (plus (counts_in p.lanes.items) broke.tally) (nodes_in p.lanes.items) broke.told)) in
      record {
        new = new_w;
        is = record {
          more = more;
          only = λ j off. more_none ops ks acting j (ap (occurs j) above ∙ off);
          there = λ y. SameBag-refl (w.there y ++ c y);
          gained = λ j. SameBag-refl (w.gained j ++ more j);
          slot = refl;
        };
        gives = record {
          run = nodes_run m s start ops brings.run chain are n on;
          each = λ j. elim (some-left (occurs j ops)) [
            | inr here ↦ stages_give hash_of x m new_w fits.some start ops ks ss acts1 all stages1 below stages_once j here
            | inl off ↦ slot_gives hash_of x m new_w fits.some j (slot_at slots.slots.items j) (sum_of (seats_at slots.seats.items j))
                (slot_kept x m new_w j (is_place os j) (slot_at slots.slots.items j) (slot_at old.slots.slots.items j) (seats_at slots.seats.items j) (seats_at old.slots.seats.items j)
                (place_off x m start sts ops part.at b j stands.stages off) (taken.slots j) (taken.free j)
                (slot_stays x m w c more j (slot_at old.slots.slots.items j) (sum_of (seats_at old.slots.seats.items j)) (slots_fit j) (none_came j off) (none_more j off)))
                (slots_once j)
          ];
          many = λ chains. (
              let z = counted_zero n (start ∷ ops) (counts_in p.lanes.items) opened.within in
              let e = ap (counted_at n (start ∷ ops)) (counts_alike ks acting rows0 rows brings.rows) ∙ came.counted n in
              let l = both_many (w.there (OutOf n)) (c (OutOf n)) in
              let all : limit < length (w.there (OutOf n) ++ c (OutOf n)) = omega arith in all);
        };
      }

  -- ---- rows that were counted at a leg's first node

  head_counted : (n : ℕ) (nodes counts : List ℕ) → 0 < length nodes → n ≡ first_node nodes → number_at counts 0 ≤ counted_at n nodes counts
  head_counted n [] counts some e = absurd (omega arith)
  head_counted n (k ∷ nodes) [] some e = omega arith
  head_counted n (k ∷ nodes) (c ∷ counts) some e = at_head n k c nodes counts e

  pub node_refused : (old : Engine H) (leg : OpenLeg H) (n : ℕ) (m : Meaning) (w : World) → old.leg ≡ Some leg → Fits hash_of old x m w
      → IsPast (first_node (nodes_in leg.passage.lanes.items)) (number_at (counts_in leg.passage.lanes.items) 0) old.context.row_limit old.given.items n
      → SlotsOnce old.slots → AllOnce leg.passage.shared.items (acts_now hash_of leg.passage.lanes.items leg.passage.seats.items) → GivesMany m old.context.row_limit w n
  node_refused old leg n m w opened fits past slots_once stages_once =
      let was = leg_of hash_of x m w old leg fits opened in
      let lanes = leg.passage.lanes.items in
      let acts = acts_now hash_of lanes leg.passage.seats.items in
      let before : nodes_before old.leg ≡ m.above was.given = ap nodes_before opened ∙ ap behind was.nodes in
      let first : n ≡ was.given = past.told ∙ ap first_node was.nodes in
      record {
        run = λ chains. ap m.is_run first ∙ was.run chains;
        each = λ j. elim (some-left (occurs j (m.above was.given))) [
          | inr here ↦ stages_give hash_of x m w fits.some was.given (m.above was.given) _ leg.passage.shared.items acts acts was.stages (all_below_refl acts) stages_once j here
          | inl off ↦ slot_gives hash_of x m w fits.some j (slot_at old.slots.slots.items j) (sum_of (seats_at old.slots.seats.items j)) (fits.slots j (ap (occurs j) before ∙ off)) (slots_once j)
        ];
        many = λ chains. (
            let C : Option (OpenLeg H) → Type 0 = λ l. AreCounted old.given.items l old.context.row_limit w in
            let counted = subst C opened fits.counted in
            let there : n < length old.given.items = (let e = past.told in let l = past.there in omega arith) in
            let e : length (w.there (OutOf n)) ≡ number_at old.given.items n + counted_at n (nodes_in lanes) (counts_in lanes) = counted.came n there in
            let h = head_counted n (nodes_in lanes) (counts_in lanes) (let l = ap length was.nodes in omega arith) past.told in
            let g = ap (number_at old.given.items) past.told in
            let k = past.many in omega arith);
      }

  -- ---- a flush that went a part of its way

  pub settle_broken : (old : Engine H) (leg : OpenLeg H) (p : Passage H (PhysSink H)) (node : ℕ) (from : List Field) (n : ℕ) (m : Meaning) (w : World) (now : List ℕ) (at : SinkAt)
      → old.leg ≡ Some leg → ((first : ℕ) (ops : List ℕ) → nodes_in leg.passage.lanes.items ≡ first ∷ ops → from ≡ x.schema_at first)
      → HasBroken hash_of sink_words old.context.row_limit from leg.passage.lanes.items p.lanes.items leg.passage.shared.items p.shared.items leg.passage.seats.items p.seats.items n
      → SlotsOnce old.slots → AllOnce p.shared.items (acts_now hash_of p.lanes.items p.seats.items)
      → Fits hash_of old x m w → IsBefore old.leg (node ∷ now) at → m.above node ≡ now → (m.is_join node ≡ true → SameBag (w.there (OutOf (m.probed node))) (m.rows (m.probed node)))
      → ComesToMany m old.context.row_limit (IsOrSettles m node w) n
  settle_broken old leg p node from n m w now at opened from_is broken slots_once stages_once fits before above_node seen =
      let sound = fits.sound in
      let limit = old.context.row_limit in
      let was = leg_of hash_of x m w old leg fits opened in
      let known = before_of old.leg leg (node ∷ now) at opened before in
      let above : m.above was.given ≡ node ∷ now = ap behind (sym was.nodes) ∙ known.0 in
      let schema : from ≡ x.schema_at was.given = from_is was.given (m.above was.given) was.nodes in
      let W : List Field → Type 0 = λ z. HasBroken hash_of sink_words limit z leg.passage.lanes.items p.lanes.items leg.passage.shared.items p.shared.items leg.passage.seats.items p.seats.items n in
      let done = subst W schema broken in
      let left = done.left in
      let s = done.slot in
      let seats = done.seats in
      let ss = p.shared.items in
      let free = p.seats.items in
      let b = left_behind hash_of x m w limit leg done.mid ss free s seats node was.given now sound above was.above_sink was.nodes was.gives was.stages left in
      let rows = rows_of_parts parts_in (part_in hash_of) done.closed in
      let own = owns hash_of x m w was.given node b.work s done.closed seats sound fits.some b.first left.all_in done.closes seen in
      let C : List Field → Type 0 = λ z. Broken hash_of limit z rows done.mid p.lanes.items ss free n in
      let broke : Broken hash_of limit (x.schema_at node) rows done.mid p.lanes.items ss free n = subst C b.schema (broken_of hash_of limit left.next rows done.mid p.lanes.items ss free n left.passing done.over) in
      let sink = sink_node m.ordered leg.at in
      let are = alike_from m node now sink sound b.above b.above_sink in
      let w0 = spent_at node w in
      let ks = works_in (phys_words hash_of) (x.schema_at node) ss done.mid in
      let acts0 = acts_now hash_of done.mid free in
      let acts1 = acts_now hash_of p.lanes.items free in
      let stages0 : StagesFit x m w0 node now ks ss acts0 =
      (let P : List Field → Type 0 = λ z. StagesFit x m w0 node now (works_in (phys_words hash_of) z ss done.mid) ss acts0 in
      subst P b.schema (stages_spent x m w node node now (works_in (phys_words hash_of) left.next ss done.mid) ss acts0 b.off b.others)) in
      let makes : AllMakeOf m now ks = works_make x m w0 node now ks ss acts0 stages0 in
      let acting = filled ks broke.acts rows in
      let out = gone_out ks broke.acts rows in
      let came = arrived m node sink now ks acting rows out sound b.above b.above_sink are makes (flows_filled ks broke.acts broke.tally rows broke.parts) in
      let more = more_of now ks acting in
      let c = come_to m node rows more in
      let new_w = with_more w0 c more in
      let all = added acts0 acting in
      let stages1 : StagesFit x m new_w node now ks ss all = stages_pass x m w0 c more node now ks ss acts0 all acting stages0 (all_grown acts0 acts1 broke.acts ks broke.tally rows broke.grown broke.parts) came.marked (all_give m sink now ks acting are) in
      let below = all_below acts0 acts1 broke.acts ks broke.tally rows broke.grown broke.parts in
      let on : nodes_before old.leg ≡ node ∷ now = ap nodes_before opened ∙ known.0 in
      let none_more : (j : ℕ) → occurs j now ≡ 0 → SameBag [] (more j) = λ j off. SameBag-from_equal (sym (more_none now ks acting j off)) in
      let none_came : (j : ℕ) → occurs j now ≡ 0 → m.is_join j ≡ true → SameBag [] (c (OutOf (m.probed j))) = λ j off join. (let o = probed_off m node sink now j sound b.above are off join in came.apart (m.probed j) o.0 o.1) in
      let N : List ℕ → Type 0 = λ ns. limit < counted_at n ns (counts_in done.mid) + counted_at n ns (counts_of ks acting rows) in
      let over : limit < counted_at n (node ∷ now) (counts_in done.mid) + counted_at n (node ∷ now) (counts_of ks acting rows) = subst N b.nodes (over_by limit n ks broke.acts broke.tally rows (counts_in done.mid) (nodes_in done.mid) broke.parts broke.told) in
      let there : 0 < occurs n (node ∷ now) = (let O : List ℕ → Type 0 = λ ns. 0 < occurs n ns in subst O b.nodes (over_on limit n (plus (counts_in done.mid) broke.tally) (nodes_in done.mid) broke.told)) in
      let here_gives : GivesNoMore m new_w node = record {
        joins = λ join unspent. absurd (unspent (slot_here node w ∙ ap spent (b.first.1 join).table.has));
        others = λ not. nothing_gained m new_w node (SameBag-append (b.first.0 not).0.bare.gained (none_more node b.off));
      } in
      record {
        new = new_w;
        is = inr (record {
          flushed = rows;
          own = own;
          passed = record {
            more = more;
            only = λ k off. more_none now ks acting k (ap (occurs k) (sym b.above) ∙ off);
            there = λ y. SameBag-refl (w.there y ++ c y);
            gained = λ k. SameBag-refl (w.gained k ++ more k);
            slot = refl;
          };
        });
        gives = record {
          run = nodes_run m sink node now (λ chains. chains.next was.given node now above) b.above are n there;
          each = λ j. elim (some-left (occurs j now)) [
            | inr later ↦ stages_give hash_of x m new_w fits.some node now ks ss acts1 all stages1 below stages_once j later
            | inl off ↦ by_test (GivesNoMore m new_w j) (j == node)
                (λ e. (let G : ℕ → Type 0 = GivesNoMore m new_w in subst G (sym (eq-is j node e)) here_gives))
                (λ e. (let ne = eq-not j node e in
                slot_gives hash_of x m new_w fits.some j (slot_at old.slots.slots.items j) (sum_of (seats_at old.slots.seats.items j))
                (slot_stays x m w0 c more j (slot_at old.slots.slots.items j) (sum_of (seats_at old.slots.seats.items j)) (slot_spent x m w node j (slot_at old.slots.slots.items j) (sum_of (seats_at old.slots.seats.items j)) ne (fits.slots j (ap (occurs j) on ∙ none_on j node now ne off))) (none_came j off) (none_more j off))
                (slots_once j)))
          ];
          many = λ chains. (
              let run = nodes_run m sink node now (λ k. k.next was.given node now above) b.above are n there chains in
              let lt : n < length old.given.items = (let l = chains.low n run in let e = fits.given in omega arith) in
              let K : Option (OpenLeg H) → Type 0 = λ l. AreCounted old.given.items l limit w in
              let counted = subst K opened fits.counted in
              let e : length (w.there (OutOf n)) ≡ number_at old.given.items n + counted_at n (nodes_in leg.passage.lanes.items) (counts_in leg.passage.lanes.items) = counted.came n lt in
              let f = first_counted n left.node left.given (nodes_in done.mid) (counts_in done.mid) (nodes_in leg.passage.lanes.items) (counts_in leg.passage.lanes.items) left.nodes left.counts in
              let q = ap (λ ns. counted_at n ns (counts_in done.mid)) b.nodes in
              let t = came.counted n in
              let l = both_many (w.there (OutOf n)) (c (OutOf n)) in
              let all : limit < length (w.there (OutOf n) ++ c (OutOf n)) = omega arith in all);
        };
      }
