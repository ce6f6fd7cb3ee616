-- Joins whose keys were each won once give no more than their own, wherever their tables stand.
use Rattle.std.proofs.Common.{◌≡◌, ℕ, ◌+◌, ◌<◌, ◌≤◌, true, false, ◌==◌, List, [], ◌∷◌, ◌++◌, refl, sym, ap, subst, ◌∙◌, arith}
use Rattle.std.specs.List.{flat_map}
use Rattle.pipe_schema.specs.Rows.{Row}
use Rattle.pipe_schema.proofs.Weights.{SameBag, SameBag-sym, SameBag-trans, SameBag-from_rows}
use Rattle.pipe_driver.specs.Meaning.{Meaning, OutOf}
use Rattle.pipe_driver.specs.Ways.{one, occurs}
use Rattle.pipe_driver.proofs.Tests.{by_test, eq-is, not-both}
use Rattle.pipe_driver.specs.State.{World}
use Rattle.pipe_driver.specs.Within.{GaveOwn, GivesOfProbed, GivesNoMore}
use Rattle.pipe_chain.specs.Flow.{Work, Acts}
use Rattle.pipe_chain.specs.Keys.{WithinKeys}
use Rattle.pipe_chain.proofs.Weighing.{keys-fewer, keys-weigh, keys-within, gains-same}
use Rattle.pipe_slots.specs.Kinds.{kind_of}
use Rattle.pipe_slots.specs.declared.slot.Slot.{Slot}
use Rattle.pipe_slots.specs.declared.slot.Slot.TheVariants as slot
use Rattle.pipe_passage.specs.Stopped.{IsOnce, AllOnce}
use Rattle.pipe_engine.specs.Engine.{IsBare, IsTabled, SlotFits, StageFits, StagesFit, join_work}
use Rattle.pipe_engine.specs.Stands.{Settings}
use Rattle.pipe_engine.proofs.Gives.{GaveAmong, gave_none, kind_gives}
use Rattle.pipe_engine.proofs.Parted.{Below, AllBelow, below_refl}

own_of : (m : Meaning) (w : World) (j : ℕ) → GaveAmong (m.own j) (w.gained j) → GaveOwn m w j
own_of m w j among = record { rest = among.rest; is = among.is }

pub nothing_gained : (m : Meaning) (w : World) (j : ℕ) → SameBag [] (w.gained j) → GaveOwn m w j
nothing_gained m w j none = own_of m w j (gave_none (m.own j) (w.gained j) (SameBag-sym none))

-- nothing came to it
bare_gives : (m : Meaning) (w : World) (j : ℕ) → IsBare m w j → GivesNoMore m w j
bare_gives m w j bare = record { joins = λ join spent within. nothing_gained m w j bare.gained; others = λ not. nothing_gained m w j bare.gained }

module _ {H : Type 0} (hash_of : H → List ℕ → ℕ) (x : Settings H) (m : Meaning) (w : World) (some : 0 < x.parts) where
  -- a table, in which no more was marked and won than this
  table_gives : (j : ℕ) (s : Slot H) (a acts : Acts) → IsTabled x m w j s acts → Below a acts → IsOnce s a → GivesOfProbed m w j
  table_gives j s a acts is below once within =
      let spec = x.spec_at j in
      let k = join_work x j s in
      let there = w.there (OutOf (m.probed j)) in
      own_of m w j (kind_gives hash_of x (kind_of spec.how spec.swapped) spec s a (m.own j) (w.gained j) there (m.rows (m.probed j)) (m.below j)
      is.suits is.join.good is.rows
      (keys-within (λ f. (let b = keys-fewer below.marked f in let e = keys-weigh is.marked f in omega arith)))
      (SameBag-trans is.gained (SameBag-sym (SameBag-from_rows (gains-same k.gains below.won))))
      is.join.own within some is.built once)

  tabled_gives : (j : ℕ) (s : Slot H) (a acts : Acts) → IsTabled x m w j s acts → Below a acts → IsOnce s a → GivesNoMore m w j
  tabled_gives j s a acts is below once = record {
    joins = λ join spent within. table_gives j s a acts is below once within;
    others = λ not. absurd (not-both (m.is_join j) is.join.is_join not);
  }

  pub slot_gives : (j : ℕ) (s : Slot H) (acts : Acts) → SlotFits x m w j s acts → IsOnce s acts → GivesNoMore m w j
  slot_gives j slot.Empty acts is once = bare_gives m w j is
  slot_gives j (slot.Keys t) acts is once = tabled_gives j (slot.Keys t) acts acts is (below_refl acts) once
  slot_gives j (slot.Rows f) acts is once = tabled_gives j (slot.Rows f) acts acts is (below_refl acts) once
  slot_gives j (slot.Full t) acts is once = tabled_gives j (slot.Full t) acts acts is (below_refl acts) once
  slot_gives j slot.Spent acts is once = record { joins = λ join unspent. absurd (unspent is.1); others = λ not. absurd (not-both (m.is_join j) is.0 not) }

  stage_gives : (given n : ℕ) (k : Work) (s : Slot H) (a acts : Acts) → StageFits x m w given n k s acts → Below a acts → IsOnce s a → GivesNoMore m w n
  stage_gives given n k s a acts is below once = by_test (GivesNoMore m w n) (m.is_join n)
      (λ join. tabled_gives n s a acts (is.1 join).table below once)
      (λ not. bare_gives m w n (is.0 not).0.bare)

  pub stages_give : (given : ℕ) (ops : List ℕ) (ks : List Work) (ss : List (Slot H)) (less acts : List Acts) → StagesFit x m w given ops ks ss acts → AllBelow less acts → AllOnce ss less → (j : ℕ) → 0 < occurs j ops → GivesNoMore m w j
  stages_give given [] ks ss less acts is below once j on = absurd (omega arith)
  stages_give given (n ∷ ops) [] ss less acts is below once j on = absurd is
  stages_give given (n ∷ ops) (k ∷ ks) [] less acts is below once j on = absurd is
  stages_give given (n ∷ ops) (k ∷ ks) (s ∷ ss) less [] is below once j on = absurd is
  stages_give given (n ∷ ops) (k ∷ ks) (s ∷ ss) [] (b ∷ acts) is below once j on = absurd below
  stages_give given (n ∷ ops) (k ∷ ks) (s ∷ ss) (a ∷ less) (b ∷ acts) is below once j on = by_test (GivesNoMore m w j) (n == j)
      (λ e. (let P : ℕ → Type 0 = GivesNoMore m w in subst P (eq-is n j e) (stage_gives given n k s a b is.0 below.0 once.0)))
      (λ e. (let z = ap one e in stages_give n ops ks ss less acts is.1 below.1 once.1 j (omega arith)))
