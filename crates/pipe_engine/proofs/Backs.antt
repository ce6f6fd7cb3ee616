-- What a stage read is put back, or is spent.
use Rattle.std.proofs.Common.{◌≡◌, ◌≢◌, ℕ, ◌<◌, Bool, true, false, cond, ◌==◌, List, [], ◌∷◌, length, get_or, refl, sym, ap, subst, ◌∙◌, arith}
use Rattle.pipe_driver.proofs.Tests.{eq-true, eq-false}
use Rattle.pipe_chain.specs.Flags.{SeatMarks}
use Rattle.pipe_slots.specs.SlotTables.{slot_at, seats_at}
use Rattle.pipe_slots.specs.declared.slot.Slot.{Slot}
use Rattle.pipe_slots.specs.declared.slot.Slot.TheVariants.{Empty, Spent}
use Rattle.pipe_slots.specs.declared.slots.Slots.{Slots}
use Rattle.pipe_engine.specs.Carried.{IsBack, ReadsNothing}
use Rattle.pipe_engine.proofs.Nodes.{IsSpentAt}

here_is : {A : Type 0} (n : ℕ) (v d : A) → cond (n == n) v d ≡ v
here_is n v d = ap (λ b. cond b v d) (eq-true n n refl)

other_is : {A : Type 0} (k n : ℕ) (v d : A) → k ≢ n → cond (k == n) v d ≡ d
other_is k n v d ne = ap (λ b. cond b v d) (eq-false k n ne)

-- a stage that read nothing leaves all slots as they are
pub back_empty : {H : Type 0} (node : ℕ) (slot : Slot H) (seats : List SeatMarks) (slots : Slots H) → slot ≡ Empty → slot_at slots.slots.items node ≡ Empty → IsBack node slot seats slots slots
back_empty node slot seats slots none empty = record {
  here = empty ∙ sym none;
  seats_here = λ some. absurd (some none);
  slots = λ k ne. refl;
  free = λ k ne. refl;
  count = refl;
  seats_count = refl;
  workers = refl;
}

-- what one read stands in its slot again, with its seats
pub back_put : {H : Type 0} (node : ℕ) (slot : Slot H) (seats : List SeatMarks) (old mid new : Slots H)
    → ((k : ℕ) → slot_at mid.slots.items k ≡ cond (k == node) slot (slot_at old.slots.items k)) → length mid.slots.items ≡ length old.slots.items → mid.seats ≡ old.seats → mid.workers ≡ old.workers
    → ((k : ℕ) → seats_at new.seats.items k ≡ cond (k == node) seats (seats_at mid.seats.items k)) → length new.seats.items ≡ length mid.seats.items → new.slots ≡ mid.slots → new.workers ≡ mid.workers
    → IsBack node slot seats old new
back_put node slot seats old mid new put count same_seats workers put_seats seats_count same_slots workers' = record {
  here = ap (λ v. slot_at v.items node) same_slots ∙ put node ∙ here_is node slot (slot_at old.slots.items node);
  seats_here = λ some. put_seats node ∙ here_is node seats (seats_at mid.seats.items node);
  slots = λ k ne. ap (λ v. slot_at v.items k) same_slots ∙ put k ∙ other_is k node slot (slot_at old.slots.items k) ne;
  free = λ k ne. put_seats k ∙ other_is k node seats (seats_at mid.seats.items k) ne ∙ ap (λ v. seats_at v.items k) same_seats;
  count = ap (λ v. length v.items) same_slots ∙ count;
  seats_count = seats_count ∙ ap (λ v. length v.items) same_seats;
  workers = workers' ∙ workers;
}

-- ---- whether it read anything

pub reads_yes : {H : Type 0} (ss : List (Slot H)) (d : Slot H) → 0 < length ss → get_or ss 0 d ≡ Empty → ReadsNothing true ss
reads_yes [] d some e = absurd (omega arith)
reads_yes (s ∷ ss) d some e = e

pub reads_no : {H : Type 0} (ss : List (Slot H)) (d : Slot H) → 0 < length ss → (get_or ss 0 d ≡ Empty → ⊥) → ReadsNothing false ss
reads_no [] d some e = absurd (omega arith)
reads_no (s ∷ ss) d some e = e

-- ---- the slot of a node that is settled

pub spent_none : {H : Type 0} (node : ℕ) (nothing : Bool) (ss : List (Slot H)) (slots : Slots H) → nothing ≡ true → ReadsNothing nothing ss → IsSpentAt node nothing ss slots slots
spent_none node nothing ss slots is reads = record {
  reads = reads;
  empty = λ e. refl;
  spent = λ e. (let f : true ≡ false = sym is ∙ e in cc);
  slots = λ k ne. refl;
  seats = refl;
  count = refl;
  workers = refl;
}

pub spent_put : {H : Type 0} (node : ℕ) (nothing : Bool) (ss : List (Slot H)) (old new : Slots H) → nothing ≡ false → ReadsNothing nothing ss
    → ((k : ℕ) → slot_at new.slots.items k ≡ cond (k == node) Spent (slot_at old.slots.items k)) → length new.slots.items ≡ length old.slots.items → new.seats ≡ old.seats → new.workers ≡ old.workers → IsSpentAt node nothing ss old new
spent_put node nothing ss old new is reads put count seats workers = record {
  reads = reads;
  empty = λ e. (let f : false ≡ true = sym is ∙ e in cc);
  spent = λ e. put node ∙ here_is node Spent (slot_at old.slots.items node);
  slots = λ k ne. put k ∙ other_is k node Spent (slot_at old.slots.items k) ne;
  seats = seats;
  count = count;
  workers = workers;
}
