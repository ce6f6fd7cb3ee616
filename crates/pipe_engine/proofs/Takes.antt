-- What stages read is taken out of the slots, one stage after another.
use Rattle.std.proofs.Common.{◌≡◌, ℕ, ◌<◌, Bool, true, false, cond, ◌==◌, ◌||◌, List, [], ◌∷◌, ◌++◌, length, map, refl, sym, ap, subst, ◌∙◌, append-nil, append_assoc}
use Rattle.pipe_driver.proofs.Tests.{by_test, eq-is, eq-true, not-both, or-first, or-right}
use Rattle.pipe_chain.specs.Flags.{SeatMarks}
use Rattle.pipe_run.specs.Stages.{operators_of}
use Rattle.pipe_run.specs.declared.stage.Stage.{Stage}
use Rattle.pipe_slots.specs.Places.{Place}
use Rattle.pipe_slots.specs.SlotTables.{slot_at, seats_at}
use Rattle.pipe_slots.specs.declared.phys_operator.PhysOperator.{PhysOperator}
use Rattle.pipe_slots.specs.declared.phys_operator.PhysOperator.TheVariants as op
use Rattle.pipe_slots.specs.declared.slot.Slot.{Slot}
use Rattle.pipe_slots.specs.declared.slot.Slot.TheVariants.{Empty}
use Rattle.pipe_slots.specs.declared.slots.Slots.{Slots}
use Rattle.pipe_engine.specs.Taken.{own_slot, own_seats, is_place, is_place_of, IsApart, AreApart, IsOwn, IsTaken, IsTakenBehind}

-- ---- one operator

pub apart_alone : {H : Type 0} (o : PhysOperator H) (os : List (PhysOperator H)) (nodes : ℕ) → IsApart o os nodes → IsApart o [] nodes
apart_alone (op.Filter f) os nodes h = tt
apart_alone (op.SimpleProjection p) os nodes h = tt
apart_alone (op.Projection p) os nodes h = tt
apart_alone (op.Hstack p) os nodes h = tt
apart_alone (op.Function f) os nodes h = tt
apart_alone (op.Pass p) os nodes h = tt
apart_alone (op.PlaceHolder p) os nodes h = (refl, h.1)
apart_alone (op.CallBack c) os nodes h = tt

-- the places of the stages behind the first, below as many nodes
pub others_apart : {H : Type 0} (all others : List (Stage (PhysOperator H))) (stage : Stage (PhysOperator H)) (nodes same : ℕ) → all ≡ stage ∷ others → same ≡ nodes → AreApart (operators_of all) nodes → AreApart (operators_of others) same
others_apart {H = H} all others stage nodes same e long apart =
    let P : List (Stage (PhysOperator H)) → Type 0 = λ z. AreApart (operators_of z) nodes in
    let Q : ℕ → Type 0 = AreApart (operators_of others) in
    subst Q (sym long) (subst P e apart).1

-- of the place of a probe, slot and seats are taken one after the other
pub own_placed : {H : Type 0} (p : Place) (n : ℕ) (old mid new : Slots H) (slot : Slot H) (seats : List SeatMarks) → n ≡ p.node
    → slot ≡ slot_at old.slots.items n → ((k : ℕ) → slot_at mid.slots.items k ≡ cond (k == n) Empty (slot_at old.slots.items k)) → length mid.slots.items ≡ length old.slots.items → mid.seats ≡ old.seats → mid.workers ≡ old.workers
    → seats ≡ seats_at mid.seats.items n → ((k : ℕ) → seats_at new.seats.items k ≡ cond (k == n) [] (seats_at mid.seats.items k)) → length new.seats.items ≡ length mid.seats.items → new.slots ≡ mid.slots → new.workers ≡ mid.workers
    → IsOwn (op.PlaceHolder p) old new slot seats
own_placed {H = H} p n old mid new slot seats at slot_is slots count same_seats workers seats_is free seats_count same_slots workers' = record {
  slot_is = slot_is ∙ ap (slot_at old.slots.items) at;
  seats_is = seats_is ∙ ap (λ v. seats_at v.items n) same_seats ∙ ap (seats_at old.seats.items) at;
  slots = λ k. ap (λ v. slot_at v.items k) same_slots ∙ slots k ∙ ap (λ m. cond (k == m) Empty (slot_at old.slots.items k)) at;
  free = λ k. free k ∙ ap (λ v. cond (k == n) [] (seats_at v.items k)) same_seats ∙ ap (λ m. cond (k == m) [] (seats_at old.seats.items k)) at;
  count = ap (λ v. length v.items) same_slots ∙ count;
  seats_count = seats_count ∙ ap (λ v. length v.items) same_seats;
  workers = workers' ∙ workers;
}

-- ---- one behind the other

pub taken_none : {H : Type 0} (slots : Slots H) (before : List (Slot H)) (seats : List (List SeatMarks)) → IsTakenBehind [] slots slots before before seats seats
taken_none slots before seats = record {
  shared = [];
  free = [];
  shared_is = sym (append-nil before);
  free_is = sym (append-nil seats);
  taken = record { shared_is = refl; seats_is = refl; slots = λ k. refl; free = λ k. refl; count = refl; seats_count = refl; workers = refl };
}

-- no operator behind one has its place
off_one : {H : Type 0} (o : PhysOperator H) (os : List (PhysOperator H)) (nodes : ℕ) → IsApart o os nodes → (k : ℕ) → is_place os k ≡ true → is_place_of o k ≡ false
off_one (op.Filter f) os nodes h k on = refl
off_one (op.SimpleProjection p) os nodes h k on = refl
off_one (op.Projection p) os nodes h k on = refl
off_one (op.Hstack p) os nodes h k on = refl
off_one (op.Function f) os nodes h k on = refl
off_one (op.Pass p) os nodes h k on = refl
off_one (op.PlaceHolder p) os nodes h k on = by_test ((k == p.node) ≡ false) (k == p.node)
    (λ e. absurd (not-both (is_place os p.node) (ap (is_place os) (sym (eq-is k p.node e)) ∙ on) h.0))
    (λ e. e)
off_one (op.CallBack c) os nodes h k on = refl

slot_same : {H : Type 0} (o : PhysOperator H) (a b : List (Slot H)) → ((k : ℕ) → is_place_of o k ≡ true → slot_at a k ≡ slot_at b k) → own_slot a o ≡ own_slot b o
slot_same (op.Filter f) a b h = refl
slot_same (op.SimpleProjection p) a b h = refl
slot_same (op.Projection p) a b h = refl
slot_same (op.Hstack p) a b h = refl
slot_same (op.Function f) a b h = refl
slot_same (op.Pass p) a b h = refl
slot_same (op.PlaceHolder p) a b h = h p.node (eq-true p.node p.node refl)
slot_same (op.CallBack c) a b h = refl

seats_same : {H : Type 0} (o : PhysOperator H) (a b : List (List SeatMarks)) → ((k : ℕ) → is_place_of o k ≡ true → seats_at a k ≡ seats_at b k) → own_seats a o ≡ own_seats b o
seats_same (op.Filter f) a b h = refl
seats_same (op.SimpleProjection p) a b h = refl
seats_same (op.Projection p) a b h = refl
seats_same (op.Hstack p) a b h = refl
seats_same (op.Function f) a b h = refl
seats_same (op.Pass p) a b h = refl
seats_same (op.PlaceHolder p) a b h = h p.node (eq-true p.node p.node refl)
seats_same (op.CallBack c) a b h = refl

all_slots : {H : Type 0} (os : List (PhysOperator H)) (a b : List (Slot H)) → ((k : ℕ) → is_place os k ≡ true → slot_at a k ≡ slot_at b k) → map (own_slot a) os ≡ map (own_slot b) os
all_slots [] a b h = refl
all_slots (o ∷ os) a b h =
    ap (λ s. s ∷ map (own_slot a) os) (slot_same o a b (λ k on. h k (or-first (is_place_of o k) (is_place os k) on)))
    ∙ ap (λ l. own_slot b o ∷ l) (all_slots os a b (λ k on. h k (or-right (is_place_of o k) (is_place os k) on)))

all_seats : {H : Type 0} (os : List (PhysOperator H)) (a b : List (List SeatMarks)) → ((k : ℕ) → is_place os k ≡ true → seats_at a k ≡ seats_at b k) → map (own_seats a) os ≡ map (own_seats b) os
all_seats [] a b h = refl
all_seats (o ∷ os) a b h =
    ap (λ s. s ∷ map (own_seats a) os) (seats_same o a b (λ k on. h k (or-first (is_place_of o k) (is_place os k) on)))
    ∙ ap (λ l. own_seats b o ∷ l) (all_seats os a b (λ k on. h k (or-right (is_place_of o k) (is_place os k) on)))

or_cond : {A : Type 0} (a b : Bool) (e d : A) → cond b e (cond a e d) ≡ cond (a || b) e d
or_cond true true e d = refl
or_cond true false e d = refl
or_cond false b e d = refl

pub taken_more : {H : Type 0} (o : PhysOperator H) (os : List (PhysOperator H)) (nodes : ℕ) (old mid new : Slots H) (s : Slot H) (v : List SeatMarks) (ss : List (Slot H)) (vs : List (List SeatMarks)) → IsApart o os nodes → IsOwn o old mid s v → IsTaken os mid new ss vs → IsTaken (o ∷ os) old new (s ∷ ss) (v ∷ vs)
taken_more o os nodes old mid new s v ss vs apart own taken =
    let same : (k : ℕ) → is_place os k ≡ true → slot_at mid.slots.items k ≡ slot_at old.slots.items k = λ k on. own.slots k ∙ ap (λ b. cond b Empty (slot_at old.slots.items k)) (off_one o os nodes apart k on) in
    let same_seats : (k : ℕ) → is_place os k ≡ true → seats_at mid.seats.items k ≡ seats_at old.seats.items k = λ k on. own.free k ∙ ap (λ b. cond b [] (seats_at old.seats.items k)) (off_one o os nodes apart k on) in
    record {
      shared_is = ap (λ x. x ∷ ss) own.slot_is ∙ ap (λ l. own_slot old.slots.items o ∷ l) (taken.shared_is ∙ all_slots os mid.slots.items old.slots.items same);
      seats_is = ap (λ x. x ∷ vs) own.seats_is ∙ ap (λ l. own_seats old.seats.items o ∷ l) (taken.seats_is ∙ all_seats os mid.seats.items old.seats.items same_seats);
      slots = λ k. taken.slots k ∙ ap (λ d. cond (is_place os k) Empty d) (own.slots k) ∙ or_cond (is_place_of o k) (is_place os k) Empty (slot_at old.slots.items k);
      free = λ k. taken.free k ∙ ap (λ d. cond (is_place os k) [] d) (own.free k) ∙ or_cond (is_place_of o k) (is_place os k) [] (seats_at old.seats.items k);
      count = taken.count ∙ own.count;
      seats_count = taken.seats_count ∙ own.seats_count;
      workers = taken.workers ∙ own.workers;
    }

pub behind_more : {H : Type 0} (o : PhysOperator H) (os : List (PhysOperator H)) (nodes : ℕ) (old mid new : Slots H) (s : Slot H) (v : List SeatMarks) (before pushed after' : List (Slot H)) (seats seats_pushed seats' : List (List SeatMarks)) → IsApart o os nodes → IsOwn o old mid s v
    → pushed ≡ before ++ s ∷ [] → seats_pushed ≡ seats ++ v ∷ [] → IsTakenBehind os mid new pushed after' seats_pushed seats' → IsTakenBehind (o ∷ os) old new before after' seats seats'
behind_more o os nodes old mid new s v before pushed after' seats seats_pushed seats' apart own e f is = record {
  shared = s ∷ is.shared;
  free = v ∷ is.free;
  shared_is = is.shared_is ∙ ap (λ l. l ++ is.shared) e ∙ append_assoc before (s ∷ []) is.shared;
  free_is = is.free_is ∙ ap (λ l. l ++ is.free) f ∙ append_assoc seats (v ∷ []) is.free;
  taken = taken_more o os nodes old mid new s v is.shared is.free apart own is.taken;
}

-- nothing was taken before
pub taken_alone : {H : Type 0} (os : List (PhysOperator H)) (old new : Slots H) (before after' : List (Slot H)) (seats seats' : List (List SeatMarks)) → before ≡ [] → seats ≡ [] → IsTakenBehind os old new before after' seats seats' → IsTaken os old new after' seats'
taken_alone {H = H} os old new before after' seats seats' none no_seats is =
    let P : List (Slot H) → Type 0 = λ z. IsTaken os old new z seats' in
    let Q : List (List SeatMarks) → Type 0 = λ z. IsTaken os old new is.shared z in
    subst P (sym (is.shared_is ∙ ap (λ l. l ++ is.shared) none)) (subst Q (sym (is.free_is ∙ ap (λ l. l ++ is.free) no_seats)) is.taken)

-- an operator that reads nothing
pub own_none : {H : Type 0} (o : PhysOperator H) (slots : Slots H) (seats : List SeatMarks) → own_slot slots.slots.items o ≡ Empty → own_seats slots.seats.items o ≡ [] → ((k : ℕ) → is_place_of o k ≡ false) → seats ≡ [] → IsOwn o slots slots Empty seats
own_none o slots seats slot_none seats_none off none = record {
  slot_is = sym slot_none;
  seats_is = none ∙ sym seats_none;
  slots = λ k. sym (ap (λ b. cond b Empty (slot_at slots.slots.items k)) (off k));
  free = λ k. sym (ap (λ b. cond b [] (seats_at slots.seats.items k)) (off k));
  count = refl;
  seats_count = refl;
  workers = refl;
}
