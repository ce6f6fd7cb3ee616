-- What is known of a leg's lanes lets each call on them be made.
use Rattle.std.proofs.Common.{◌≡◌, ℕ, zero, suc, ◌+◌, ◌<◌, ◌≤◌, Bool, true, false, ◌==◌, List, [], ◌∷◌, length, get_or, ◌++◌, Option, Some, None, refl, sym, ap, subst, ◌∙◌, arith, length-append}
use Rattle.std.specs.Prelude.{All}
use Rattle.std.specs.List.{flat_map, AllByRecursion}
use Rattle.pipe_schema.specs.Rows.{Same}
use Rattle.pipe_schema.specs.declared.field.Field.{Field}
use Rattle.pipe_expr.specs.declared.join_words.JoinType.{JoinType}
use Rattle.pipe_expr.specs.declared.join_words.JoinType.TheVariants as how
use Rattle.pipe_driver.specs.declared.branch.SinkAt.{SinkAt}
use Rattle.pipe_driver.specs.Legs.{sink_node}
use Rattle.pipe_driver.specs.Meaning.{Meaning}
use Rattle.pipe_driver.specs.Ways.{one, occurs, IsSoundMeaning}
use Rattle.pipe_driver.proofs.Tests.{by_test, eq-true, not-both}
use Rattle.pipe_driver.specs.State.{World}
use Rattle.pipe_chain.specs.Flags.{SeatMarks}
use Rattle.pipe_chain.specs.Chain.{AllServe}
use Rattle.pipe_chain.specs.Counts.{AllWithin, plus}
use Rattle.pipe_chain.specs.Flow.{Work, Acts}
use Rattle.pipe_chain.proofs.Weighing.{rows-length}
use Rattle.pipe_run.specs.Dealt.{nodes_in, counts_in, HasNodes, IsWithin}
use Rattle.pipe_run.specs.Flushes.{HasStage}
use Rattle.pipe_run.specs.Lanes.{held_in, lane_operators, lane_counts, lane_nodes, IsSet}
use Rattle.pipe_run.specs.Stages.{operators_of, nodes_of, counts}
use Rattle.pipe_run.specs.declared.lane.Lane.{Lane}
use Rattle.pipe_run.specs.declared.stage.SinkStage.{SinkStage}
use Rattle.pipe_run.specs.declared.stage.Stage.{Stage}
use Rattle.pipe_run.proofs.Sums.{held-within}
use Rattle.pipe_slots.specs.JoinWords.{parts_by, parts_in}
use Rattle.pipe_slots.specs.SlotTables.{slot_at}
use Rattle.pipe_slots.specs.declared.phys_operator.PhysOperator.{PhysOperator}
use Rattle.pipe_slots.specs.declared.slot.Slot.{Slot}
use Rattle.pipe_slots.specs.declared.slot.Slot.TheVariants.{Empty, Keys, Rows, Full, Spent}
use Rattle.pipe_passage.specs.LaneSeats.{AllRest}
use Rattle.pipe_passage.specs.Passages.{phys_words, acts_now, IsPassing, HasFewParts}
use Rattle.pipe_passage.proofs.Opened.{rest-length}
use Rattle.pipe_slots.specs.Sinks.{SinkSetting, OrderedBy, SortedBy, BuiltBy, CrossedBy, setting_in, sink_rows, sink_schema}
use Rattle.pipe_slots.specs.SinkWords.{sink_words}
use Rattle.pipe_slots.specs.declared.phys_sink.PhysSink.{PhysSink}
use Rattle.pipe_slots.specs.declared.phys_sink.PhysSink.TheVariants.{Ordered, Sort, Build, Cross}
use Rattle.pipe_table.specs.Spec.{built_schema}
use Rattle.pipe_engine.specs.Carried.{schema_given, first_node, ReadsNothing}
use Rattle.pipe_engine.specs.Engine.{StageFits, StagesFit, Fits, IsBefore, behind, nodes_before, works_of_leg}
use Rattle.pipe_engine.specs.Stands.{Settings}
use Rattle.pipe_engine.specs.declared.engine.Engine.{Engine}
use Rattle.pipe_engine.specs.declared.engine.OpenLeg.{OpenLeg}
use Rattle.pipe_engine.proofs.Nodes.{leg_of, before_of}

abbrev Lanes : Type 0 → Type 0
Lanes H = List (Lane (PhysOperator H) (PhysSink H))

-- ---- lists

all_rec : {X : Type 0} (P : X → Type 0) (xs : List X) → All P xs → AllByRecursion P xs
all_rec P [] h = tt
all_rec P (x ∷ xs) h = (h 0 x (omega arith), all_rec P xs (λ i d less. h (suc i) d (omega arith)))

-- ---- a leg that has stages before it

some_served : {H : Type 0} (hash_of : H → List ℕ → ℕ) (os : List (PhysOperator H)) (ss : List (Slot H)) → AllServe (phys_words hash_of) os ss → 0 < length ss → 0 < length os
some_served hash_of [] [] serve some = absurd (omega arith)
some_served hash_of [] (s ∷ ss) serve some = absurd serve
some_served hash_of (o ∷ os) [] serve some = absurd serve
some_served hash_of (o ∷ os) (s ∷ ss) serve some = omega arith

operators_long : {O : Type 0} (sts : List (Stage O)) → length (operators_of sts) ≡ length sts
operators_long [] = refl
operators_long (st ∷ sts) = ap suc (operators_long sts)

pub have_stages : {H : Type 0} (hash_of : H → List ℕ → ℕ) (limit : ℕ) (from : List Field) (lanes : Lanes H) (ss : List (Slot H)) (free : List (List SeatMarks)) → IsPassing hash_of sink_words limit from lanes ss free → 0 < length ss → AllByRecursion HasStage lanes
have_stages hash_of limit from lanes ss free passing some =
    all_rec HasStage lanes (λ i d less. (let l = get_or lanes i d in
    let n = some_served hash_of (lane_operators l) ss (passing.fit i d less).serve some in
    let e : length (lane_operators l) ≡ length l.stages.items = operators_long l.stages.items in
    omega arith))

pub have_seats : {H : Type 0} (n : ℕ) (ss : List (Slot H)) (free : List (List SeatMarks)) → AllRest n ss free → 0 < length ss → 0 < length free
have_seats n ss free rest some = let e = rest-length n ss free rest in omega arith

some_slots : {H : Type 0} (x : Settings H) (m : Meaning) (w : World) (given n : ℕ) (ops : List ℕ) (ks : List Work) (ss : List (Slot H)) (acts : List Acts) → StagesFit x m w given (n ∷ ops) ks ss acts → 0 < length ss
some_slots x m w given n ops [] ss acts is = absurd is
some_slots x m w given n ops (k ∷ ks) [] acts is = absurd is
some_slots x m w given n ops (k ∷ ks) (s ∷ ss) acts is = omega arith

-- ---- what the first stage reads

abbrev first_slot : {H : Type 0} → List (Slot H) → Slot H
first_slot [] = Empty
first_slot (s ∷ ss) = s

first_empty : {H : Type 0} (x : Settings H) (m : Meaning) (w : World) (given n : ℕ) (ops : List ℕ) (ks : List Work) (ss : List (Slot H)) (acts : List Acts) → StagesFit x m w given (n ∷ ops) ks ss acts → m.is_join n ≡ false → first_slot ss ≡ Empty
first_empty x m w given n ops [] ss acts is not = absurd is
first_empty x m w given n ops (k ∷ ks) [] acts is not = absurd is
first_empty x m w given n ops (k ∷ ks) (s ∷ ss) [] is not = absurd is
first_empty x m w given n ops (k ∷ ks) (s ∷ ss) (a ∷ acts) is not = (is.0.0 not).1

parts_few : (kind : JoinType) (n : ℕ) → n < 4294967295 → parts_by kind n < 4294967295
parts_few how.Inner n few = omega arith
parts_few how.Left n few = omega arith
parts_few how.Full n few = few
parts_few how.Cross n few = omega arith
parts_few how.Semi n few = omega arith
parts_few how.Anti n few = few

few_parts : {H : Type 0} (x : Settings H) (m : Meaning) (w : World) (given n : ℕ) (k : Work) (s : Slot H) (a : Acts) → StageFits x m w given n k s a → x.parts < 4294967295 → parts_in s < 4294967295
few_parts x m w given n k Empty a is few = omega arith
few_parts x m w given n k (Keys t) a is few = omega arith
few_parts x m w given n k (Rows f) a is few = omega arith
few_parts {H = H} x m w given n k (Full t) a is few = by_test (parts_in (Full t) < 4294967295) (m.is_join n)
    (λ join. (let e = (is.1 join).table.built.parts in parts_few t.table.spec.how t.table.parts (omega arith)))
    (λ not. (let e : Full t ≡ Empty = (is.0 not).1 in cc))
few_parts x m w given n k Spent a is few = omega arith

few_first : {H : Type 0} (x : Settings H) (m : Meaning) (w : World) (given n : ℕ) (ops : List ℕ) (ks : List Work) (ss : List (Slot H)) (acts : List Acts) → StagesFit x m w given (n ∷ ops) ks ss acts → x.parts < 4294967295 → HasFewParts ss
few_first x m w given n ops [] ss acts is few = absurd is
few_first x m w given n ops (k ∷ ks) [] acts is few = absurd is
few_first x m w given n ops (k ∷ ks) (s ∷ ss) [] is few = absurd is
few_first x m w given n ops (k ∷ ks) (s ∷ ss) (a ∷ acts) is few = few_parts x m w given n k s a is.0 few

-- ---- a leg that runs

-- what is known of a leg that may leave a node
pub record MayGo {H : Type 0} (hash_of : H → List ℕ → ℕ) (x : Settings H) (old : Engine H) (leg : OpenLeg H) (node : ℕ) : Type 0 where
  pub passing : IsPassing hash_of sink_words old.context.row_limit (schema_given x leg.passage.lanes.items) leg.passage.lanes.items leg.passage.shared.items leg.passage.seats.items
  pub stages : AllByRecursion HasStage leg.passage.lanes.items
  pub shared : 0 < length leg.passage.shared.items
  pub seats : 0 < length leg.passage.seats.items
  pub parts : HasFewParts leg.passage.shared.items
  pub empty : (first_slot leg.passage.shared.items ≡ Empty → ⊥) → node < length old.slots.slots.items
  pub seats_there : (first_slot leg.passage.shared.items ≡ Empty → ⊥) → node < length old.slots.seats.items

pub given_is : {H : Type 0} (x : Settings H) (lanes : Lanes H) (given : ℕ) (ops : List ℕ) → nodes_in lanes ≡ given ∷ ops → schema_given x lanes ≡ x.schema_at given
given_is x lanes given ops e = ap (λ ns. x.schema_at (first_node ns)) e

pub may_go : {H : Type 0} (hash_of : H → List ℕ → ℕ) (x : Settings H) (old : Engine H) (leg : OpenLeg H) (m : Meaning) (w : World) (node : ℕ) (now : List ℕ) (at : SinkAt) → Fits hash_of old x m w → old.leg ≡ Some leg → IsBefore old.leg (node ∷ now) at → MayGo hash_of x old leg node
may_go {H = H} hash_of x old leg m w node now at fits opened before =
    let was = leg_of hash_of x m w old leg fits opened in
    let known = before_of old.leg leg (node ∷ now) at opened before in
    let above : m.above was.given ≡ node ∷ now = ap behind (sym was.nodes) ∙ known.0 in
    let lanes = leg.passage.lanes.items in
    let ss = leg.passage.shared.items in
    let free = leg.passage.seats.items in
    let from_is = given_is x lanes was.given (m.above was.given) was.nodes in
    let P : List Field → Type 0 = λ z. IsPassing hash_of sink_words old.context.row_limit z lanes ss free in
    let passing = subst P (sym from_is) was.passing in
    let ks = works_of_leg hash_of (x.schema_at was.given) leg.passage in
    let acts = acts_now hash_of lanes free in
    let S : List ℕ → Type 0 = λ z. StagesFit x m w was.given z ks ss acts in
    let stages = subst S above was.stages in
    let some = some_slots x m w was.given node now ks ss acts stages in
    let low : (first_slot ss ≡ Empty → ⊥) → node < m.ordered = λ ne. by_test (node < m.ordered) (m.is_join node)
    (λ join. fits.sound.low_join node join)
    (λ not. absurd (ne (first_empty x m w was.given node now ks ss acts stages not))) in
    record {
      passing = passing;
      stages = have_stages hash_of old.context.row_limit (schema_given x lanes) lanes ss free passing some;
      shared = some;
      seats = have_seats (length lanes) ss free was.passing.rest some;
      parts = few_first x m w was.given node now ks ss acts stages fits.few;
      empty = λ ne. (let l = low ne in let e = fits.nodes in omega arith);
      seats_there = λ ne. (let l = low ne in let e = fits.seated in omega arith);
    }

-- the slot of a node that a leg has before it is empty
pub taken_at : {H : Type 0} (hash_of : H → List ℕ → ℕ) (x : Settings H) (old : Engine H) (leg : OpenLeg H) (m : Meaning) (w : World) (node : ℕ) (now : List ℕ) (at : SinkAt) → Fits hash_of old x m w → old.leg ≡ Some leg → IsBefore old.leg (node ∷ now) at → slot_at old.slots.slots.items node ≡ Empty
taken_at hash_of x old leg m w node now at fits opened before =
    let known = before_of old.leg leg (node ∷ now) at opened before in
    let here : one (node == node) ≡ 1 = ap one (eq-true node node refl) in
    let e = ap (λ l. occurs node (nodes_before l)) opened in
    let f = ap (occurs node) known.0 in
    fits.taken node (omega arith)

-- the first of what the stages read
pub first_of : {H : Type 0} (ss rest : List (Slot H)) (s : Slot H) → ss ≡ s ∷ rest → first_slot ss ≡ s
first_of ss rest s e = ap first_slot e

-- ---- lanes at their sinks

counts_nodes : {O K : Type 0} (sts : List (Stage O)) (b : SinkStage K) → length (counts sts b) ≡ length (nodes_of sts b)
counts_nodes [] b = refl
counts_nodes (st ∷ sts) b = ap suc (counts_nodes sts b)

plus_one : (ns ms : List ℕ) → length ns ≤ 1 → length ms ≤ 1 → length (plus ns ms) ≤ 1
plus_one [] ms a b = b
plus_one (n ∷ []) [] a b = a
plus_one (n ∷ []) (k ∷ ms) a b = b
plus_one (n ∷ k ∷ ns) ms a b = absurd (omega arith)

one_count : {H : Type 0} (nodes : List ℕ) (lanes : Lanes H) → length nodes ≡ 1 → All (HasNodes nodes) lanes → length (counts_in lanes) ≤ 1
one_count nodes [] long same = omega arith
one_count nodes (z ∷ lanes) long same =
    let e = counts_nodes z.stages.items z.target in
    let f = ap length (same 0 z (omega arith)) in
    plus_one (lane_counts z) (counts_in lanes) (omega arith) (one_count nodes lanes long (λ i d less. same (suc i) d (omega arith)))

small : (ns : List ℕ) → length ns ≤ 1 → AllWithin (get_or ns 0 0) ns
small [] few = tt
small (n ∷ []) few = (omega arith, tt)
small (n ∷ k ∷ ns) few = absurd (omega arith)

first_within : (limit : ℕ) (ns : List ℕ) → AllWithin limit ns → get_or ns 0 0 ≤ limit
first_within limit [] h = omega arith
first_within limit (n ∷ ns) h = h.0

-- the rows that lanes hold were counted
pub counted : {H : Type 0} (hash_of : H → List ℕ → ℕ) (limit : ℕ) (from : List Field) (lanes : Lanes H) (ss : List (Slot H)) (free : List (List SeatMarks)) → IsPassing hash_of sink_words limit from lanes ss free → length (nodes_in lanes) ≡ 1 → length (flat_map (held_in sink_rows) lanes) ≤ get_or (counts_in lanes) 0 0
counted hash_of limit from lanes ss free passing left =
    let same : All (HasNodes (nodes_in lanes)) lanes = λ i d less. (passing.alike i d less).1 in
    held-within sink_rows (get_or (counts_in lanes) 0 0) (nodes_in lanes) lanes same
    (λ i d less. (passing.fit i d less).room (passing.calm i d less))
    (small (counts_in lanes) (one_count (nodes_in lanes) lanes left same))

pub few_counted : {H : Type 0} (hash_of : H → List ℕ → ℕ) (limit : ℕ) (from : List Field) (lanes : Lanes H) (ss : List (Slot H)) (free : List (List SeatMarks)) → IsPassing hash_of sink_words limit from lanes ss free → get_or (counts_in lanes) 0 0 ≤ limit
few_counted hash_of limit from lanes ss free passing = first_within limit (counts_in lanes) passing.within

-- a sink that lanes were combined into has no more rows than were counted
pub held_counted : {H : Type 0} (before after' : PhysSink H) (lanes : Lanes H) (rows given : ℕ) → Same (sink_rows after') (sink_rows before ++ flat_map (held_in sink_rows) lanes) → length (sink_rows before) ≤ rows → length (flat_map (held_in sink_rows) lanes) ≤ given → length (sink_rows after') ≤ rows + given
held_counted before after' lanes rows given same held counts =
    let e = rows-length same in
    let f = length-append (sink_rows before) (flat_map (held_in sink_rows) lanes) in
    omega (arith, e, f, held, counts)

pub same_nodes : {H : Type 0} (hash_of : H → List ℕ → ℕ) (limit : ℕ) (from : List Field) (lanes : Lanes H) (ss : List (Slot H)) (free : List (List SeatMarks)) → IsPassing hash_of sink_words limit from lanes ss free → All (HasNodes (nodes_in lanes)) lanes
same_nodes hash_of limit from lanes ss free passing = λ i d less. (passing.alike i d less).1

pub each_within : {H : Type 0} (hash_of : H → List ℕ → ℕ) (limit : ℕ) (from : List Field) (lanes : Lanes H) (ss : List (Slot H)) (free : List (List SeatMarks)) → IsPassing hash_of sink_words limit from lanes ss free → All (IsWithin limit) lanes
each_within hash_of limit from lanes ss free passing = λ i d less. (passing.fit i d less).within (passing.calm i d less)

-- sinks of one setting take one schema
abbrev schema_by : {H : Type 0} → SinkSetting H → List Field
schema_by (OrderedBy schema) = schema
schema_by (SortedBy s) = s.schema
schema_by (BuiltBy b) = built_schema b.spec
schema_by (CrossedBy c) = c.schema

schema_is : {H : Type 0} (k : PhysSink H) → sink_schema k ≡ schema_by (setting_in k)
schema_is (Ordered s) = refl
schema_is (Sort s) = refl
schema_is (Build b) = refl
schema_is (Cross c) = refl

pub one_schema : {H : Type 0} (k : PhysSink H) (lanes : Lanes H) → All (IsSet setting_in (setting_in k)) lanes → All (IsSet sink_schema (sink_schema k)) lanes
one_schema k lanes same = λ i d less. schema_is (get_or lanes i d).target.sink ∙ ap schema_by (same i d less) ∙ sym (schema_is k)

no_first : {H : Type 0} (ss : List (Slot H)) → ReadsNothing false ss → first_slot ss ≡ Empty → ⊥
no_first [] reads none = reads
no_first (s ∷ ss) reads none = reads none

-- where no leg runs, none has nodes before it
pub no_leg : {H : Type 0} (leg : Option (OpenLeg H)) (now : List ℕ) (at : SinkAt) → IsBefore leg now at → leg ≡ None → ⊥
no_leg {H = H} leg now at before none = let P : Option (OpenLeg H) → Type 0 = λ z. IsBefore z now at in subst P none before

pub not_first : {H : Type 0} (nothing : Bool) (ss : List (Slot H)) → nothing ≡ false → ReadsNothing nothing ss → first_slot ss ≡ Empty → ⊥
not_first {H = H} nothing ss isnt reads none = let P : Bool → Type 0 = λ b. ReadsNothing b ss in no_first ss (subst P isnt reads) none
