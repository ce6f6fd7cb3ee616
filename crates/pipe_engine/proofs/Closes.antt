-- The flags of all slots are closed, one after another.
use Rattle.std.proofs.Common.{◌≡◌, ℕ, zero, suc, ◌+◌, ◌<◌, ◌≤◌, ◌==◌, cond, List, [], length, refl, sym, ap, subst, ◌∙◌, arith, inl, inr, ◌⊎◌}
use Rattle.std.proofs.lemmas.List.{get_or_past}
use Rattle.pipe_chain.specs.Flags.{SeatMarks}
use Rattle.pipe_driver.proofs.Tests.{by_test, eq-is, eq-not, eq-false}
use Rattle.pipe_slots.specs.SlotTables.{slot_at, seats_at, CanClose, IsClosedAs}
use Rattle.pipe_slots.specs.declared.slot.Slot.{Slot}
use Rattle.pipe_slots.specs.declared.slot.Slot.TheVariants.{Empty}
use Rattle.pipe_slots.specs.declared.slots.Slots.{Slots}
use Rattle.pipe_passage.specs.LaneSeats.{sum_of, IsRest}
use Rattle.pipe_passage.specs.Stopped.{IsOnce}
use Rattle.pipe_passage.proofs.Settles.{can-close}
use Rattle.pipe_passage.proofs.Stopped.{once-closed}
use Rattle.pipe_engine.specs.Refused.{SlotsOnce}

abbrev once_at : {H : Type 0} → Slots H → ℕ → Type 0
once_at slots k = IsOnce (slot_at slots.slots.items k) (sum_of (seats_at slots.seats.items k))

-- the slots below a number are closed, the others as they were
pub record ClosedTo {H : Type 0} (old now : Slots H) (node : ℕ) : Type 0 where
  pub long : length now.slots.items ≡ length old.slots.items
  pub seated : length now.seats.items ≡ length old.seats.items
  pub done : (k : ℕ) → k < node → once_at old k
  pub slots : (k : ℕ) → node ≤ k → slot_at now.slots.items k ≡ slot_at old.slots.items k
  pub seats : (k : ℕ) → node ≤ k → seats_at now.seats.items k ≡ seats_at old.seats.items k

below_or : (k n : ℕ) → (k < n) ⊎ (n ≤ k)
below_or zero zero = inr (omega arith)
below_or zero (suc n) = inl (omega arith)
below_or (suc k) zero = inr (omega arith)
below_or (suc k) (suc n) = elim (below_or k n) [ inl l ↦ inl (omega arith) | inr l ↦ inr (omega arith) ]

below_other : (k node : ℕ) → k < node + 1 → (k ≡ node → ⊥) → k < node
below_other k node lt ne = elim (below_or k node) [ inl l ↦ l | inr g ↦ absurd (ne (omega arith)) ]

module _ {H : Type 0} where
  pub may_close : (old now : Slots H) (node : ℕ) → ClosedTo old now node → IsRest 0 (slot_at old.slots.items node) (seats_at old.seats.items node) → CanClose (slot_at now.slots.items node) (seats_at now.seats.items node)
  may_close old now node is rest =
      let S : Slot H → Type 0 = λ z. CanClose z (seats_at now.seats.items node) in
      let V : List SeatMarks → Type 0 = λ z. CanClose (slot_at old.slots.items node) z in
      subst S (sym (is.slots node (omega arith))) (subst V (sym (is.seats node (omega arith))) (can-close (slot_at old.slots.items node) (seats_at old.seats.items node) rest))

  here_once : (old now : Slots H) (node : ℕ) (closed : Slot H) → ClosedTo old now node → IsRest 0 (slot_at old.slots.items node) (seats_at old.seats.items node) → IsClosedAs (slot_at now.slots.items node) (seats_at now.seats.items node) closed → once_at old node
  here_once old now node closed is rest closes =
      let S : Slot H → Type 0 = λ z. IsClosedAs z (seats_at now.seats.items node) closed in
      let V : List SeatMarks → Type 0 = λ z. IsClosedAs (slot_at old.slots.items node) z closed in
      once-closed (slot_at old.slots.items node) closed (seats_at old.seats.items node) rest (subst V (is.seats node (omega arith)) (subst S (is.slots node (omega arith)) closes))

  -- one more
  pub closed_next : (old now new : Slots H) (node : ℕ) → ClosedTo old now node → IsRest 0 (slot_at old.slots.items node) (seats_at old.seats.items node)
      → IsClosedAs (slot_at now.slots.items node) (seats_at now.seats.items node) (slot_at new.slots.items node)
      → ((k : ℕ) → slot_at new.slots.items k ≡ cond (k == node) (slot_at new.slots.items node) (slot_at now.slots.items k))
      → ((k : ℕ) → seats_at new.seats.items k ≡ cond (k == node) [] (seats_at now.seats.items k))
      → length new.slots.items ≡ length now.slots.items → length new.seats.items ≡ length now.seats.items → ClosedTo old new (node + 1)
  closed_next old now new node is rest closes slots seats long seated =
      let apart : (k : ℕ) → node + 1 ≤ k → (k ≡ node → ⊥) = λ k le e. absurd (omega arith) in
      record {
        long = long ∙ is.long;
        seated = seated ∙ is.seated;
        done = λ k lt. by_test (once_at old k) (k == node)
            (λ e. (let P : ℕ → Type 0 = once_at old in subst P (sym (eq-is k node e)) (here_once old now node (slot_at new.slots.items node) is rest closes)))
            (λ e. (let ne = eq-not k node e in is.done k (below_other k node lt ne)));
        slots = λ k le. slots k ∙ ap (λ b. cond b (slot_at new.slots.items node) (slot_at now.slots.items k)) (eq-false k node (apart k le)) ∙ is.slots k (omega arith);
        seats = λ k le. seats k ∙ ap (λ b. cond b [] (seats_at now.seats.items k)) (eq-false k node (apart k le)) ∙ is.seats k (omega arith);
      }

  past_once : (slots : Slots H) (k : ℕ) → length slots.slots.items ≤ k → once_at slots k
  past_once slots k past =
      let S : Slot H → Type 0 = λ z. IsOnce z (sum_of (seats_at slots.seats.items k)) in
      subst S (sym (get_or_past slots.slots.items k Empty past)) tt

  -- all of them
  pub closed_all : (old now : Slots H) (node : ℕ) → ClosedTo old now node → length old.slots.items ≤ node → SlotsOnce old
  closed_all old now node is all = λ k. elim (below_or k (length old.slots.items)) [
    | inl lt ↦ is.done k (omega arith)
    | inr le ↦ past_once old k le
  ]
