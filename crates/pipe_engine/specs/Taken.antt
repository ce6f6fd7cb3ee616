-- What the stages of a leg read, taken out of the slots.
use Rattle.std.specs.Prelude.{◌≡◌, ℕ, ◌<◌, List, [], ◌∷◌, ◌++◌, Bool, false, ◌==◌, ◌||◌, if◌then◌else◌, length, map}
use Rattle.pipe_chain.specs.Flags.{SeatMarks}
use Rattle.pipe_slots.specs.SlotTables.{slot_at, seats_at}
use Rattle.pipe_slots.specs.declared.phys_operator.PhysOperator.{PhysOperator}
use Rattle.pipe_slots.specs.declared.phys_operator.PhysOperator.TheVariants as op
use Rattle.pipe_slots.specs.declared.slot.Slot.{Slot}
use Rattle.pipe_slots.specs.declared.slot.Slot.TheVariants.{Empty}
use Rattle.pipe_slots.specs.declared.slots.Slots.{Slots}

-- what an operator reads: the place of a probe what stands in the slot of its join
abbrev pub own_slot : {H : Type 0} → List (Slot H) → PhysOperator H → Slot H
own_slot slots (op.Filter f) = Empty
own_slot slots (op.SimpleProjection p) = Empty
own_slot slots (op.Projection p) = Empty
own_slot slots (op.Hstack p) = Empty
own_slot slots (op.Function f) = Empty
own_slot slots (op.Pass p) = Empty
own_slot slots (op.PlaceHolder p) = slot_at slots p.node
own_slot slots (op.CallBack c) = Empty

-- and the seats there
abbrev pub own_seats : {H : Type 0} → List (List SeatMarks) → PhysOperator H → List SeatMarks
own_seats seats (op.Filter f) = []
own_seats seats (op.SimpleProjection p) = []
own_seats seats (op.Projection p) = []
own_seats seats (op.Hstack p) = []
own_seats seats (op.Function f) = []
own_seats seats (op.Pass p) = []
own_seats seats (op.PlaceHolder p) = seats_at seats p.node
own_seats seats (op.CallBack c) = []

-- whether an operator is the place of a join's probe
abbrev pub is_place_of : {H : Type 0} → PhysOperator H → ℕ → Bool
is_place_of (op.Filter f) k = false
is_place_of (op.SimpleProjection p) k = false
is_place_of (op.Projection p) k = false
is_place_of (op.Hstack p) k = false
is_place_of (op.Function f) k = false
is_place_of (op.Pass p) k = false
is_place_of (op.PlaceHolder p) k = k == p.node
is_place_of (op.CallBack c) k = false

abbrev pub is_place : {H : Type 0} → List (PhysOperator H) → ℕ → Bool
is_place [] k = false
is_place (o ∷ os) k = is_place_of o k || is_place os k

-- the places of probes are different ones, below a number
abbrev pub IsApart : {H : Type 0} → PhysOperator H → List (PhysOperator H) → (nodes : ℕ) → Type 0
IsApart (op.Filter f) os nodes = Unit {0}
IsApart (op.SimpleProjection p) os nodes = Unit {0}
IsApart (op.Projection p) os nodes = Unit {0}
IsApart (op.Hstack p) os nodes = Unit {0}
IsApart (op.Function f) os nodes = Unit {0}
IsApart (op.Pass p) os nodes = Unit {0}
IsApart (op.PlaceHolder p) os nodes = (is_place os p.node ≡ false) × (p.node < nodes)
IsApart (op.CallBack c) os nodes = Unit {0}

abbrev pub AreApart : {H : Type 0} → List (PhysOperator H) → (nodes : ℕ) → Type 0
AreApart [] nodes = Unit {0}
AreApart (o ∷ os) nodes = IsApart o os nodes × AreApart os nodes

-- what an operator reads was taken out of the slots, with the seats there
pub record IsOwn {H : Type 0} (o : PhysOperator H) (old new : Slots H) (slot : Slot H)
    (seats : List SeatMarks) : Type 0 where
  pub slot_is : slot ≡ own_slot old.slots.items o
  pub seats_is : seats ≡ own_seats old.seats.items o
  pub slots : (k : ℕ) → slot_at new.slots.items k
      ≡ (if is_place_of o k then Empty else slot_at old.slots.items k)
  pub free : (k : ℕ) → seats_at new.seats.items k
      ≡ (if is_place_of o k then [] else seats_at old.seats.items k)
  pub count : length new.slots.items ≡ length old.slots.items
  pub seats_count : length new.seats.items ≡ length old.seats.items
  pub workers : new.workers ≡ old.workers

-- what operators read was taken out of the slots, with the seats there
pub record IsTaken {H : Type 0} (os : List (PhysOperator H)) (old new : Slots H)
    (shared : List (Slot H)) (seats : List (List SeatMarks)) : Type 0 where
  pub shared_is : shared ≡ map (own_slot old.slots.items) os
  pub seats_is : seats ≡ map (own_seats old.seats.items) os
  pub slots : (k : ℕ) → slot_at new.slots.items k
      ≡ (if is_place os k then Empty else slot_at old.slots.items k)
  pub free : (k : ℕ) → seats_at new.seats.items k
      ≡ (if is_place os k then [] else seats_at old.seats.items k)
  pub count : length new.slots.items ≡ length old.slots.items
  pub seats_count : length new.seats.items ≡ length old.seats.items
  pub workers : new.workers ≡ old.workers

-- and put behind what was taken before
pub record IsTakenBehind {H : Type 0} (os : List (PhysOperator H)) (old new : Slots H)
    (before after' : List (Slot H)) (seats seats' : List (List SeatMarks)) : Type 0 where
  pub shared : List (Slot H)
  pub free : List (List SeatMarks)
  pub shared_is : after' ≡ before ++ shared
  pub free_is : seats' ≡ seats ++ free
  pub taken : IsTaken os old new shared free
