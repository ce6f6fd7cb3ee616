-- The stages of a leg that stands for one of the plan, before a row goes through them.
use Rattle.std.proofs.Common.{◌≡◌, ◌≢◌, ℕ, ◌+◌, ◌<◌, Bool, true, false, cond, ◌==◌, ◌||◌, List, [], ◌∷◌, map, refl, sym, ap, subst, ◌∙◌, arith}
use Rattle.pipe_schema.specs.Rows.{Row}
use Rattle.pipe_schema.specs.declared.field.Field.{Field}
use Rattle.pipe_driver.specs.declared.branch.SinkAt.{SinkAt}
use Rattle.pipe_driver.specs.Meaning.{Meaning}
use Rattle.pipe_driver.specs.Ways.{one, occurs}
use Rattle.pipe_driver.proofs.Tests.{by_test, eq-is, eq-true, eq-false, eq-not, not-both}
use Rattle.pipe_driver.specs.State.{World, Waits, Has, IsBuilt, AreAlike}
use Rattle.pipe_driver.specs.State as state
use Rattle.pipe_driver.specs.Runner.{AreBuilt}
use Rattle.pipe_chain.specs.Flags.{SeatMarks}
use Rattle.std.specs.List.{AllByRecursion}
use Rattle.pipe_chain.specs.Chain.{works_of, IsChain}
use Rattle.pipe_chain.specs.Flow.{Acts}
use Rattle.pipe_run.specs.Stages.{operators_of, nodes_of}
use Rattle.pipe_run.specs.declared.stage.SinkStage.{SinkStage}
use Rattle.pipe_run.specs.declared.stage.Stage.{Stage}
use Rattle.pipe_table.specs.declared.spec.JoinSpec.{JoinSpec}
use Rattle.pipe_slots.specs.Kinds.{kind_of}
use Rattle.pipe_slots.specs.JoinWords.{takes_join, output_join, suits_join, work_join}
use Rattle.pipe_slots.specs.PhysWords.{takes_of, output_of, suits_of, work_of}
use Rattle.pipe_passage.specs.Passages.{phys_words, schemas_of}
use Rattle.pipe_passage.specs.LaneSeats.{sum_of, IsPlanned, ArePlanned, IsRest, AllRest, HasSeats}
use Rattle.pipe_engine.specs.Taken.{own_slot, own_seats, is_place_of, is_place, IsApart, AreApart}
use Rattle.pipe_slots.specs.Places.{Place}
use Rattle.pipe_slots.specs.SlotTables.{slot_at, seats_at}
use Rattle.pipe_slots.specs.declared.phys_operator.PhysOperator.{PhysOperator}
use Rattle.pipe_slots.specs.declared.phys_operator.PhysOperator.TheVariants as op
use Rattle.pipe_slots.specs.declared.slot.Slot.{Slot}
use Rattle.pipe_slots.specs.declared.slot.Slot.TheVariants as slot
use Rattle.pipe_engine.specs.Engine.{IsBare, IsTabled, SlotFits, IsRowStage, IsJoinStage, StageFits, StagesFit, join_work}
use Rattle.pipe_slots.specs.Sinks.{sink_schema}
use Rattle.pipe_engine.specs.Stands.{Settings, IsRowOf, IsPlaceOf, IsOperatorOf, IsSinkOf, AreStagesOf}
use Rattle.pipe_slots.specs.declared.phys_sink.PhysSink.{PhysSink}
use Rattle.pipe_driver.proofs.Flowing.{first_apart}

-- ---- an operator

op_takes : {H : Type 0} (x : Settings H) (m : Meaning) (given n : ℕ) (o : PhysOperator H) → IsOperatorOf x m given n o → takes_of o (x.schema_at given)
op_takes x m given n (op.Filter f) is = is.takes
op_takes x m given n (op.SimpleProjection p) is = is.takes
op_takes x m given n (op.Projection p) is = is.takes
op_takes x m given n (op.Hstack p) is = is.takes
op_takes x m given n (op.Function f) is = is.takes
op_takes x m given n (op.Pass p) is = is.takes
op_takes x m given n (op.PlaceHolder p) is =
    let P : JoinSpec → Type 0 = λ spec. takes_join (kind_of spec.how spec.swapped) spec (x.schema_at given) in
    let Q : ℕ → Type 0 = λ k. takes_join (kind_of (x.spec_at n).how (x.spec_at n).swapped) (x.spec_at n) (x.schema_at k) in
    subst P (sym is.spec) (subst Q (sym is.probed) is.join.takes)
op_takes x m given n (op.CallBack c) is = absurd is

op_output : {H : Type 0} (x : Settings H) (m : Meaning) (given n : ℕ) (o : PhysOperator H) → IsOperatorOf x m given n o → output_of o (x.schema_at given) ≡ x.schema_at n
op_output x m given n (op.Filter f) is = is.output
op_output x m given n (op.SimpleProjection p) is = is.output
op_output x m given n (op.Projection p) is = is.output
op_output x m given n (op.Hstack p) is = is.output
op_output x m given n (op.Function f) is = is.output
op_output x m given n (op.Pass p) is = is.output
op_output x m given n (op.PlaceHolder p) is = ap (λ (spec : JoinSpec). output_join (kind_of spec.how spec.swapped) spec) is.spec ∙ is.join.output
op_output x m given n (op.CallBack c) is = absurd is

op_place : {H : Type 0} (x : Settings H) (m : Meaning) (given n : ℕ) (o : PhysOperator H) (k : ℕ) → IsOperatorOf x m given n o → k ≢ n → is_place_of o k ≡ false
op_place x m given n (op.Filter f) k is ne = refl
op_place x m given n (op.SimpleProjection p) k is ne = refl
op_place x m given n (op.Projection p) k is ne = refl
op_place x m given n (op.Hstack p) k is ne = refl
op_place x m given n (op.Function f) k is ne = refl
op_place x m given n (op.Pass p) k is ne = refl
op_place x m given n (op.PlaceHolder p) k is ne = eq-false k p.node (λ e. ne (e ∙ is.node))
op_place x m given n (op.CallBack c) k is ne = absurd is

-- ---- stages

pub nodes_are : {H : Type 0} (x : Settings H) (m : Meaning) (given : ℕ) (sts : List (Stage (PhysOperator H))) (ops : List ℕ) (at : SinkAt) (b : SinkStage (PhysSink H)) → AreStagesOf x m given sts ops at b → nodes_of sts b ≡ given ∷ ops
nodes_are x m given [] [] at b are = ap (λ k. k ∷ []) are.0
nodes_are x m given [] (n ∷ ops) at b are = absurd are
nodes_are x m given (st ∷ sts) [] at b are = absurd are
nodes_are x m given (st ∷ sts) (n ∷ ops) at b are = ap (λ k. k ∷ nodes_of sts b) are.0 ∙ ap (λ l. given ∷ l) (nodes_are x m n sts ops at b are.2)

pub record EndsIn {H : Type 0} (x : Settings H) (m : Meaning) (at : SinkAt) (sink : PhysSink H) : Type 0 where
  pub given : ℕ
  pub is : IsSinkOf x m given at sink

pub ends_in : {H : Type 0} (x : Settings H) (m : Meaning) (given : ℕ) (sts : List (Stage (PhysOperator H))) (ops : List ℕ) (at : SinkAt) (b : SinkStage (PhysSink H)) → AreStagesOf x m given sts ops at b → EndsIn x m at b.sink
ends_in x m given [] [] at b are = record { given = given; is = are.1 }
ends_in x m given [] (n ∷ ops) at b are = absurd are
ends_in x m given (st ∷ sts) [] at b are = absurd are
ends_in x m given (st ∷ sts) (n ∷ ops) at b are = ends_in x m n sts ops at b are.2

pub chain_is : {H : Type 0} (hash_of : H → List ℕ → ℕ) (x : Settings H) (m : Meaning) (given : ℕ) (sts : List (Stage (PhysOperator H))) (ops : List ℕ) (at : SinkAt) (b : SinkStage (PhysSink H)) → AreStagesOf x m given sts ops at b → IsChain (phys_words hash_of) (x.schema_at given) (operators_of sts) (sink_schema b.sink)
chain_is hash_of x m given [] [] at b are = sym are.1.schema
chain_is hash_of x m given [] (n ∷ ops) at b are = absurd are
chain_is hash_of x m given (st ∷ sts) [] at b are = absurd are
chain_is hash_of x m given (st ∷ sts) (n ∷ ops) at b are =
    let P : List Field → Type 0 = λ s. IsChain (phys_words hash_of) s (operators_of sts) (sink_schema b.sink) in
    (op_takes x m given n st.operator are.1, subst P (sym (op_output x m given n st.operator are.1)) (chain_is hash_of x m n sts ops at b are.2))

pub gives_are : {H : Type 0} (x : Settings H) (m : Meaning) (given : ℕ) (sts : List (Stage (PhysOperator H))) (ops : List ℕ) (at : SinkAt) (b : SinkStage (PhysSink H)) → AreStagesOf x m given sts ops at b → schemas_of (x.schema_at given) (operators_of sts) ≡ map x.schema_at ops
gives_are x m given [] [] at b are = refl
gives_are x m given [] (n ∷ ops) at b are = absurd are
gives_are x m given (st ∷ sts) [] at b are = absurd are
gives_are x m given (st ∷ sts) (n ∷ ops) at b are =
    let e = op_output x m given n st.operator are.1 in
    ap (λ s. s ∷ schemas_of s (operators_of sts)) e ∙ ap (λ l. x.schema_at n ∷ l) (gives_are x m n sts ops at b are.2)

or_false : (a b : Bool) → a ≡ false → b ≡ false → (a || b) ≡ false
or_false a b h k = ap (λ t. t || b) h ∙ k

pub place_off : {H : Type 0} (x : Settings H) (m : Meaning) (given : ℕ) (sts : List (Stage (PhysOperator H))) (ops : List ℕ) (at : SinkAt) (b : SinkStage (PhysSink H)) (k : ℕ) → AreStagesOf x m given sts ops at b → occurs k ops ≡ 0 → is_place (operators_of sts) k ≡ false
place_off x m given [] [] at b k are none = refl
place_off x m given [] (n ∷ ops) at b k are none = absurd are
place_off x m given (st ∷ sts) [] at b k are none = absurd are
place_off x m given (st ∷ sts) (n ∷ ops) at b k are none =
    let apart : k ≢ n = λ e. (let z : one (n == k) ≡ 1 = ap one (eq-true n k (sym e)) in absurd (omega arith)) in
    or_false (is_place_of st.operator k) (is_place (operators_of sts) k) (op_place x m given n st.operator k are.1 apart) (place_off x m n sts ops at b k are.2 (omega arith))

op_placed : {H : Type 0} (x : Settings H) (m : Meaning) (given n : ℕ) (o : PhysOperator H) → IsOperatorOf x m given n o → is_place_of o n ≡ false → m.is_join n ≡ false
op_placed x m given n (op.Filter f) is off = is.join
op_placed x m given n (op.SimpleProjection p) is off = is.join
op_placed x m given n (op.Projection p) is off = is.join
op_placed x m given n (op.Hstack p) is off = is.join
op_placed x m given n (op.Function f) is off = is.join
op_placed x m given n (op.Pass p) is off = is.join
op_placed x m given n (op.PlaceHolder p) is off = absurd (not-both (n == p.node) (eq-true n p.node (sym is.node)) off)
op_placed x m given n (op.CallBack c) is off = absurd is

first_false : (a b : Bool) → (a || b) ≡ false → a ≡ false
first_false true b h = cc
first_false false b h = refl

second_false : (a b : Bool) → (a || b) ≡ false → b ≡ false
second_false true b h = cc
second_false false b h = h

-- a node on the way whose operator isn't the place of a probe isn't a join
pub not_placed : {H : Type 0} (x : Settings H) (m : Meaning) (given : ℕ) (sts : List (Stage (PhysOperator H))) (ops : List ℕ) (at : SinkAt) (b : SinkStage (PhysSink H)) (k : ℕ) → AreStagesOf x m given sts ops at b → 0 < occurs k ops → is_place (operators_of sts) k ≡ false → m.is_join k ≡ false
not_placed x m given [] [] at b k are on off = absurd (omega arith)
not_placed x m given [] (n ∷ ops) at b k are on off = absurd are
not_placed x m given (st ∷ sts) [] at b k are on off = absurd are
not_placed x m given (st ∷ sts) (n ∷ ops) at b k are on off = by_test (m.is_join k ≡ false) (n == k)
    (λ e. (let same = eq-is n k e in
    let P : ℕ → Type 0 = λ z. is_place_of st.operator z ≡ false in
    ap m.is_join (sym same) ∙ op_placed x m given n st.operator are.1 (subst P (sym same) (first_false (is_place_of st.operator k) (is_place (operators_of sts) k) off))))
    (λ e. (let z = ap one e in not_placed x m n sts ops at b k are.2 (omega arith) (second_false (is_place_of st.operator k) (is_place (operators_of sts) k) off)))

-- ---- what stands in their slots

bare_of : {H : Type 0} (x : Settings H) (m : Meaning) (w : World) (n : ℕ) (s : Slot H) (acts : Acts) → m.is_join n ≡ false → SlotFits x m w n s acts → IsBare m w n
bare_of x m w n slot.Empty acts not is = is
bare_of x m w n (slot.Keys t) acts not is = absurd (not-both (m.is_join n) is.join.is_join not)
bare_of x m w n (slot.Rows f) acts not is = absurd (not-both (m.is_join n) is.join.is_join not)
bare_of x m w n (slot.Full t) acts not is = absurd (not-both (m.is_join n) is.join.is_join not)
bare_of x m w n slot.Spent acts not is = absurd (not-both (m.is_join n) is.0 not)

waits_not : (rows : List Row) (s : state.Slot) → s ≡ Waits → s ≡ Has rows → ⊥
waits_not rows s e f = let g : Waits ≡ Has rows = sym e ∙ f in cc

spent_not : (rows : List Row) (s : state.Slot) → s ≡ state.Spent → s ≡ Has rows → ⊥
spent_not rows s e f = let g : state.Spent ≡ Has rows = sym e ∙ f in cc

pub tabled_of : {H : Type 0} (x : Settings H) (m : Meaning) (w : World) (n : ℕ) (s : Slot H) (acts : Acts) → IsBuilt m n (w.slot n) → SlotFits x m w n s acts → IsTabled x m w n s acts
tabled_of x m w n slot.Empty acts built is = absurd (waits_not built.table (w.slot n) is.waits built.is)
tabled_of x m w n (slot.Keys t) acts built is = is
tabled_of x m w n (slot.Rows f) acts built is = is
tabled_of x m w n (slot.Full t) acts built is = is
tabled_of x m w n slot.Spent acts built is = absurd (spent_not built.table (w.slot n) is.1 built.is)

row_opens : {H : Type 0} (x : Settings H) (m : Meaning) (w : World) (given n : ℕ) (o : PhysOperator H) (s : Slot H) (acts old : Acts) → IsRowOf x m given n o → SlotFits x m w n s old → StageFits x m w given n (work_of o (x.schema_at given) slot.Empty) slot.Empty acts
row_opens x m w given n o s acts old is fits = (
  (λ not. (record { join = is.join; each = is.each slot.Empty; asks = is.asks slot.Empty; gains = is.gains slot.Empty; bare = bare_of x m w n s old is.join fits }, refl)),
  (λ join. absurd (not-both (m.is_join n) join is.join)),
)

place_opens : {H : Type 0} (x : Settings H) (m : Meaning) (w : World) (given n : ℕ) (p : Place) (slots : List (Slot H)) (seats : List (List SeatMarks)) → IsPlaceOf x m given n p → IsTabled x m w n (slot_at slots n) (sum_of (seats_at seats n))
    → StageFits x m w given n (work_join (kind_of p.spec.how p.spec.swapped) p.spec (slot_at slots p.node)) (slot_at slots p.node) (sum_of (seats_at seats p.node))
place_opens x m w given n p slots seats is table =
    let Q : ℕ → Type 0 = λ k. StageFits x m w given n (work_join (kind_of p.spec.how p.spec.swapped) p.spec (slot_at slots k)) (slot_at slots k) (sum_of (seats_at seats k)) in
    let s = slot_at slots n in
    let here : StageFits x m w given n (work_join (kind_of p.spec.how p.spec.swapped) p.spec s) s (sum_of (seats_at seats n)) = (
      (λ not. absurd (not-both (m.is_join n) is.join.is_join not)),
      (λ join. record { join = is.join.is_join; probed = is.probed; work_is = ap (λ (spec : JoinSpec). work_join (kind_of spec.how spec.swapped) spec s) is.spec; table = table }),
    ) in subst Q (sym is.node) here

opens : {H : Type 0} (x : Settings H) (m : Meaning) (w : World) (given n : ℕ) (o : PhysOperator H) (slots : List (Slot H)) (seats : List (List SeatMarks)) → IsOperatorOf x m given n o → ((j : ℕ) → SlotFits x m w j (slot_at slots j) (sum_of (seats_at seats j))) → (m.is_join n ≡ true → IsBuilt m n (w.slot n))
    → StageFits x m w given n (work_of o (x.schema_at given) (own_slot slots o)) (own_slot slots o) (sum_of (own_seats seats o))
opens {H = H} x m w given n (op.Filter f) slots seats is fits built = row_opens x m w given n (op.Filter f) (slot_at slots n) (sum_of (own_seats {H = H} seats (op.Filter f))) (sum_of (seats_at seats n)) is (fits n)
opens {H = H} x m w given n (op.SimpleProjection p) slots seats is fits built = row_opens x m w given n (op.SimpleProjection p) (slot_at slots n) (sum_of (own_seats {H = H} seats (op.SimpleProjection p))) (sum_of (seats_at seats n)) is (fits n)
opens {H = H} x m w given n (op.Projection p) slots seats is fits built = row_opens x m w given n (op.Projection p) (slot_at slots n) (sum_of (own_seats {H = H} seats (op.Projection p))) (sum_of (seats_at seats n)) is (fits n)
opens {H = H} x m w given n (op.Hstack p) slots seats is fits built = row_opens x m w given n (op.Hstack p) (slot_at slots n) (sum_of (own_seats {H = H} seats (op.Hstack p))) (sum_of (seats_at seats n)) is (fits n)
opens {H = H} x m w given n (op.Function f) slots seats is fits built = row_opens x m w given n (op.Function f) (slot_at slots n) (sum_of (own_seats {H = H} seats (op.Function f))) (sum_of (seats_at seats n)) is (fits n)
opens {H = H} x m w given n (op.Pass p) slots seats is fits built = row_opens x m w given n (op.Pass p) (slot_at slots n) (sum_of (own_seats {H = H} seats (op.Pass p))) (sum_of (seats_at seats n)) is (fits n)
opens {H = H} x m w given n (op.PlaceHolder p) slots seats is fits built = place_opens x m w given n p slots seats is (tabled_of x m w n (slot_at slots n) (sum_of (seats_at seats n)) (built is.join.is_join) (fits n))
opens {H = H} x m w given n (op.CallBack c) slots seats is fits built = absurd is

pub stages_open : {H : Type 0} (hash_of : H → List ℕ → ℕ) (x : Settings H) (m : Meaning) (w : World) (given : ℕ) (sts : List (Stage (PhysOperator H))) (ops : List ℕ) (at : SinkAt) (b : SinkStage (PhysSink H)) (slots : List (Slot H)) (seats : List (List SeatMarks))
    → AreStagesOf x m given sts ops at b → ((j : ℕ) → SlotFits x m w j (slot_at slots j) (sum_of (seats_at seats j))) → AreBuilt m w ops
    → StagesFit x m w given ops (works_of (phys_words hash_of) (x.schema_at given) (operators_of sts) (map (own_slot slots) (operators_of sts))) (map (own_slot slots) (operators_of sts)) (map sum_of (map (own_seats seats) (operators_of sts)))
stages_open hash_of x m w given [] [] at b slots seats are fits built = tt
stages_open hash_of x m w given [] (n ∷ ops) at b slots seats are fits built = absurd are
stages_open hash_of x m w given (st ∷ sts) [] at b slots seats are fits built = absurd are
stages_open hash_of x m w given (st ∷ sts) (n ∷ ops) at b slots seats are fits built =
    let o = st.operator in
    let os = operators_of sts in
    let here : one (n == n) ≡ 1 = ap one (eq-true n n refl) in
    let P : List Field → Type 0 = λ s. StagesFit x m w n ops (works_of (phys_words hash_of) s os (map (own_slot slots) os)) (map (own_slot slots) os) (map sum_of (map (own_seats seats) os)) in (
      opens x m w given n o slots seats are.1 fits (λ join. built n (omega arith) join),
      subst P (sym (op_output x m given n o are.1)) (stages_open hash_of x m w n sts ops at b slots seats are.2 fits (λ j some join. built j (omega arith) join)),
    )

-- what stands in their slots was made for them
suit_one : {H : Type 0} (x : Settings H) (m : Meaning) (w : World) (given n : ℕ) (o : PhysOperator H) (slots : List (Slot H)) (seats : List (List SeatMarks)) → IsOperatorOf x m given n o → ((j : ℕ) → SlotFits x m w j (slot_at slots j) (sum_of (seats_at seats j))) → (m.is_join n ≡ true → IsBuilt m n (w.slot n))
    → suits_of o (own_slot slots o)
suit_one x m w given n (op.Filter f) slots seats is fits built = tt
suit_one x m w given n (op.SimpleProjection p) slots seats is fits built = tt
suit_one x m w given n (op.Projection p) slots seats is fits built = tt
suit_one x m w given n (op.Hstack p) slots seats is fits built = tt
suit_one x m w given n (op.Function f) slots seats is fits built = tt
suit_one x m w given n (op.Pass p) slots seats is fits built = tt
suit_one x m w given n (op.PlaceHolder p) slots seats is fits built =
    let table = tabled_of x m w n (slot_at slots n) (sum_of (seats_at seats n)) (built is.join.is_join) (fits n) in
    let P : JoinSpec → Type 0 = λ spec. suits_join (kind_of spec.how spec.swapped) spec (slot_at slots n) in
    let Q : ℕ → Type 0 = λ k. suits_join (kind_of p.spec.how p.spec.swapped) p.spec (slot_at slots k) in
    subst Q (sym is.node) (subst P (sym is.spec) table.suits)
suit_one x m w given n (op.CallBack c) slots seats is fits built = absurd is

planned_one : {H : Type 0} (x : Settings H) (m : Meaning) (given n : ℕ) (o : PhysOperator H) → IsOperatorOf x m given n o → IsPlanned o
planned_one x m given n (op.Filter f) is = tt
planned_one x m given n (op.SimpleProjection p) is = tt
planned_one x m given n (op.Projection p) is = tt
planned_one x m given n (op.Hstack p) is = tt
planned_one x m given n (op.Function f) is = tt
planned_one x m given n (op.Pass p) is = tt
planned_one x m given n (op.PlaceHolder p) is = tt
planned_one x m given n (op.CallBack c) is = absurd is

pub are_planned : {H : Type 0} (x : Settings H) (m : Meaning) (w : World) (given : ℕ) (sts : List (Stage (PhysOperator H))) (ops : List ℕ) (at : SinkAt) (b : SinkStage (PhysSink H)) (slots : List (Slot H)) (seats : List (List SeatMarks))
    → AreStagesOf x m given sts ops at b → ((j : ℕ) → SlotFits x m w j (slot_at slots j) (sum_of (seats_at seats j))) → AreBuilt m w ops → ArePlanned (map (own_slot slots) (operators_of sts)) sts
are_planned x m w given [] [] at b slots seats are fits built = tt
are_planned x m w given [] (n ∷ ops) at b slots seats are fits built = absurd are
are_planned x m w given (st ∷ sts) [] at b slots seats are fits built = absurd are
are_planned x m w given (st ∷ sts) (n ∷ ops) at b slots seats are fits built =
    let here : one (n == n) ≡ 1 = ap one (eq-true n n refl) in (
      planned_one x m given n st.operator are.1,
      suit_one x m w given n st.operator slots seats are.1 fits (λ join. built n (omega arith) join),
      are_planned x m w n sts ops at b slots seats are.2 fits (λ j some join. built j (omega arith) join),
    )

-- the places of probes are those of different joins
apart_one : {H : Type 0} (x : Settings H) (m : Meaning) (given n : ℕ) (o : PhysOperator H) (sts : List (Stage (PhysOperator H))) (ops : List ℕ) (at : SinkAt) (b : SinkStage (PhysSink H)) (nodes : ℕ) → IsOperatorOf x m given n o → AreStagesOf x m n sts ops at b → occurs n ops ≡ 0 → ((j : ℕ) → m.is_join j ≡ true → j < nodes)
    → IsApart o (operators_of sts) nodes
apart_one x m given n (op.Filter f) sts ops at b nodes is are none low = tt
apart_one x m given n (op.SimpleProjection p) sts ops at b nodes is are none low = tt
apart_one x m given n (op.Projection p) sts ops at b nodes is are none low = tt
apart_one x m given n (op.Hstack p) sts ops at b nodes is are none low = tt
apart_one x m given n (op.Function f) sts ops at b nodes is are none low = tt
apart_one x m given n (op.Pass p) sts ops at b nodes is are none low = tt
apart_one x m given n (op.PlaceHolder p) sts ops at b nodes is are none low =
    let P : ℕ → Type 0 = λ k. (is_place (operators_of sts) k ≡ false) × (k < nodes) in
    subst P (sym is.node) (place_off x m n sts ops at b n are none, low n is.join.is_join)
apart_one x m given n (op.CallBack c) sts ops at b nodes is are none low = absurd is

pub are_apart : {H : Type 0} (x : Settings H) (m : Meaning) (s given : ℕ) (sts : List (Stage (PhysOperator H))) (ops : List ℕ) (at : SinkAt) (b : SinkStage (PhysSink H)) (nodes : ℕ) → AreStagesOf x m given sts ops at b → AreAlike m s ops → ((j : ℕ) → m.is_join j ≡ true → j < nodes) → AreApart (operators_of sts) nodes
are_apart x m s given [] [] at b nodes are alike low = tt
are_apart x m s given [] (n ∷ ops) at b nodes are alike low = absurd are
are_apart x m s given (st ∷ sts) [] at b nodes are alike low = absurd are
are_apart x m s given (st ∷ sts) (n ∷ ops) at b nodes are alike low =
    (apart_one x m given n st.operator sts ops at b nodes are.1 are.2 (first_apart m s n ops alike) low, are_apart x m s n sts ops at b nodes are.2 alike.2 low)

-- all that they read is at rest, with a seat for each lane
rest_alone : {H : Type 0} (slots : List (Slot H)) (seats : List (List SeatMarks)) (o : PhysOperator H) → ((j : ℕ) → IsRest 0 (slot_at slots j) (seats_at seats j)) → IsRest 0 (own_slot slots o) (own_seats seats o)
rest_alone slots seats (op.Filter f) rest = tt
rest_alone slots seats (op.SimpleProjection p) rest = tt
rest_alone slots seats (op.Projection p) rest = tt
rest_alone slots seats (op.Hstack p) rest = tt
rest_alone slots seats (op.Function f) rest = tt
rest_alone slots seats (op.Pass p) rest = tt
rest_alone slots seats (op.PlaceHolder p) rest = rest p.node
rest_alone slots seats (op.CallBack c) rest = tt

enough_alone : {H : Type 0} (lanes : ℕ) (slots : List (Slot H)) (o : PhysOperator H) → ((j : ℕ) → HasSeats lanes (slot_at slots j)) → HasSeats lanes (own_slot slots o)
enough_alone lanes slots (op.Filter f) enough = tt
enough_alone lanes slots (op.SimpleProjection p) enough = tt
enough_alone lanes slots (op.Projection p) enough = tt
enough_alone lanes slots (op.Hstack p) enough = tt
enough_alone lanes slots (op.Function f) enough = tt
enough_alone lanes slots (op.Pass p) enough = tt
enough_alone lanes slots (op.PlaceHolder p) enough = enough p.node
enough_alone lanes slots (op.CallBack c) enough = tt

pub all_rest : {H : Type 0} (slots : List (Slot H)) (seats : List (List SeatMarks)) (os : List (PhysOperator H)) → ((j : ℕ) → IsRest 0 (slot_at slots j) (seats_at seats j)) → AllRest 0 (map (own_slot slots) os) (map (own_seats seats) os)
all_rest slots seats [] rest = tt
all_rest slots seats (o ∷ os) rest = (rest_alone slots seats o rest, all_rest slots seats os rest)

pub all_enough : {H : Type 0} (lanes : ℕ) (slots : List (Slot H)) (os : List (PhysOperator H)) → ((j : ℕ) → HasSeats lanes (slot_at slots j)) → AllByRecursion (HasSeats lanes) (map (own_slot slots) os)
all_enough lanes slots [] enough = tt
all_enough lanes slots (o ∷ os) enough = (enough_alone lanes slots o enough, all_enough lanes slots os enough)
