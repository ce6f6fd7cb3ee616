-- Seats at the flags of joins: those that lanes hold, and those that none does.
use Rattle.std.specs.Prelude.{◌≡◌, ℕ, ◌+◌, ◌<◌, ◌≤◌, List, [], ◌∷◌, ◌++◌, All, Bool, true, false, Option, Some, None, length, map}
use Rattle.pipe_schema.specs.declared.field.Field.{Field}
use Rattle.pipe_ops.specs.declared.sink.Sink.{Ghosts as SinkWords}
use Rattle.pipe_chain.specs.Flags.{SeatMarks, IsSeatOf, all_marked, all_won}
use Rattle.pipe_chain.specs.Flow.{Acts}
use Rattle.pipe_chain.specs.Keys.{SameKeys}
use Rattle.pipe_outer.specs.Marking.{won_key, seat_acts}
use Rattle.pipe_outer.specs.declared.marks.Marks.{Marks}
use Rattle.pipe_outer.specs.declared.marks.Marks.TheVariants as marks
use Rattle.pipe_run.specs.declared.lane.Lane.{Lane}
use Rattle.pipe_run.specs.declared.stage.SinkStage.{SinkStage}
use Rattle.pipe_run.specs.declared.stage.Stage.{Stage}
use Rattle.pipe_run.specs.Lanes.{IsCalm}
use Rattle.pipe_run.specs.Opens.{IsSplit}
use Rattle.pipe_slots.specs.Seats.{seat_of, with_seat}
use Rattle.pipe_slots.specs.PhysWords.{takes_of, output_of, work_of, suits_of, seated_of, acts_of, idle_of}
use Rattle.pipe_slots.specs.declared.phys_operator.PhysOperator.{PhysOperator}
use Rattle.pipe_slots.specs.declared.phys_operator.PhysOperator.TheVariants as op
use Rattle.pipe_slots.specs.declared.slot.Slot.{Slot}
use Rattle.pipe_slots.specs.declared.slot.Slot.TheVariants.{Empty, Keys, Rows, Full, Spent}

abbrev pub stage_with : {H : Type 0} → Option SeatMarks → Stage (PhysOperator H) →
    Stage (PhysOperator H)
stage_with seat st = record st { operator = with_seat seat st.operator }

-- ---- a lane takes seats as it is opened

-- whether what is read has flags
abbrev pub has_flags : {H : Type 0} → Slot H → Bool
has_flags Empty = false
has_flags (Keys t) = false
has_flags (Rows f) = false
has_flags (Full t) = true
has_flags Spent = false

-- it is one of a plan: no probe, but the place of one
abbrev pub IsPlanned : {H : Type 0} → PhysOperator H → Type 0
IsPlanned (op.Filter f) = Unit {0}
IsPlanned (op.SimpleProjection p) = Unit {0}
IsPlanned (op.Projection p) = Unit {0}
IsPlanned (op.Hstack p) = Unit {0}
IsPlanned (op.Function f) = Unit {0}
IsPlanned (op.Pass p) = Unit {0}
IsPlanned (op.PlaceHolder p) = Unit {0}
IsPlanned (op.CallBack c) = ⊥

-- what a stage reads was made for it
abbrev pub ArePlanned : {H : Type 0} → List (Slot H) → List (Stage (PhysOperator H)) → Type 0
ArePlanned [] [] = Unit {0}
ArePlanned [] (st ∷ sts) = ⊥
ArePlanned (s ∷ ss) [] = ⊥
ArePlanned (s ∷ ss) (st ∷ sts) =
    IsPlanned st.operator × suits_of st.operator s × ArePlanned ss sts

-- flags are marked, and have more seats than this
abbrev pub HaveMore : (lanes : ℕ) → Marks → Type 0
HaveMore lanes (marks.Running flags) = lanes < flags.seats
HaveMore lanes (marks.Closed flags) = ⊥

abbrev pub HasMore : {H : Type 0} → (lanes : ℕ) → Slot H → Type 0
HasMore lanes Empty = Unit {0}
HasMore lanes (Keys t) = Unit {0}
HasMore lanes (Rows f) = Unit {0}
HasMore lanes (Full t) = HaveMore lanes t.marks
HasMore lanes Spent = Unit {0}

abbrev pub HaveSeats : (lanes : ℕ) → Marks → Type 0
HaveSeats lanes (marks.Running flags) = lanes ≤ flags.seats
HaveSeats lanes (marks.Closed flags) = ⊥

-- there are seats for so many lanes
abbrev pub HasSeats : {H : Type 0} → (lanes : ℕ) → Slot H → Type 0
HasSeats lanes Empty = Unit {0}
HasSeats lanes (Keys t) = Unit {0}
HasSeats lanes (Rows f) = Unit {0}
HasSeats lanes (Full t) = HaveSeats lanes t.marks
HasSeats lanes Spent = Unit {0}

-- which seats are taken, stage by stage: one exactly where there are flags
abbrev pub IsFor : {H : Type 0} → Slot H → Option SeatMarks → Type 0
IsFor Empty seat = seat ≡ None
IsFor (Keys t) seat = seat ≡ None
IsFor (Rows f) seat = seat ≡ None
IsFor (Full t) None = ⊥
IsFor (Full t) (Some seat) = Unit {0}
IsFor Spent seat = seat ≡ None

-- the seats that were free before
abbrev pub given_back : Option SeatMarks → List SeatMarks → List SeatMarks
given_back None free = free
given_back (Some seat) free = free ++ seat ∷ []

abbrev pub all_back : List (Option SeatMarks) → List (List SeatMarks) → List (List SeatMarks)
all_back [] free = free
all_back (o ∷ os) [] = []
all_back (o ∷ os) (v ∷ vs) = given_back o v ∷ all_back os vs

-- an operator that was opened for a lane does the same, with its seat
pub record IsOpenOne {H : Type 0} (slot : Slot H) (took : Option SeatMarks)
    (from made : PhysOperator H) : Type 0 where
  pub takes : (s : List Field) → takes_of from s → takes_of made s
  pub output : output_of made ≡ output_of from
  pub work : work_of made ≡ work_of from
  pub suits : suits_of made slot
  pub seated : seated_of made slot
  pub acts : acts_of made ≡ seat_acts took
  pub idle : idle_of made

pub record OperatorOpened {H : Type 0} (slot : Slot H) (before after' : List SeatMarks)
    (from made : PhysOperator H) : Type 0 where
  pub took : Option SeatMarks
  pub suits : IsFor slot took
  pub seats : before ≡ given_back took after'
  pub one : IsOpenOne slot took from made

-- so does a stage, which was given no row
pub record IsOpenStage {H : Type 0} (slot : Slot H) (took : Option SeatMarks)
    (from made : Stage (PhysOperator H)) : Type 0 where
  pub suits : IsFor slot took
  pub one : IsOpenOne slot took from.operator made.operator
  pub node : made.node ≡ from.node
  pub given : made.given ≡ 0

pub record StageOpened {H : Type 0} (slot : Slot H) (before after' : List SeatMarks)
    (from made : Stage (PhysOperator H)) : Type 0 where
  pub took : Option SeatMarks
  pub seats : before ≡ given_back took after'
  pub stage : IsOpenStage slot took from made

-- stages that were opened, one by one, with what each took
abbrev pub AreOpen : {H : Type 0} → List (Slot H) → List (Option SeatMarks) →
    (from made : List (Stage (PhysOperator H))) → Type 0
AreOpen [] [] [] [] = Unit {0}
AreOpen [] [] [] (b ∷ made) = ⊥
AreOpen [] [] (a ∷ from) made = ⊥
AreOpen [] (o ∷ os) from made = ⊥
AreOpen (s ∷ ss) [] from made = ⊥
AreOpen (s ∷ ss) (o ∷ os) [] made = ⊥
AreOpen (s ∷ ss) (o ∷ os) (a ∷ from) [] = ⊥
AreOpen (s ∷ ss) (o ∷ os) (a ∷ from) (b ∷ made) = IsOpenStage s o a b × AreOpen ss os from made

pub record StagesOpened {H : Type 0} (ss : List (Slot H)) (before after' : List (List SeatMarks))
    (from old new : List (Stage (PhysOperator H))) : Type 0 where
  pub took : List (Option SeatMarks)
  pub made : List (Stage (PhysOperator H))
  pub pushed : new ≡ old ++ made
  pub seats : before ≡ all_back took after'
  pub each : AreOpen ss took from made

-- a lane that has done nothing, over operators with seats and a sink of its own
pub record LaneOpened {H K B C : Type 0} (sink : SinkWords K B C) (ss : List (Slot H))
    (before after' : List (List SeatMarks)) (stages : List (Stage (PhysOperator H)))
    (target : SinkStage K) (lane : Lane (PhysOperator H) K) : Type 0 where
  pub took : List (Option SeatMarks)
  pub seats : before ≡ all_back took after'
  pub each : AreOpen ss took stages lane.stages.items
  pub own : IsSplit sink target.sink lane.target.sink
  pub node : lane.target.node ≡ target.node
  pub given : lane.target.given ≡ 0
  pub flushers : lane.flushers.items ≡ []
  pub entries : lane.entries.items ≡ []
  pub calm : IsCalm lane

-- such lanes, one after another
abbrev pub LanesOpened : {H K B C : Type 0} → SinkWords K B C → List (Slot H) →
    (before after' : List (List SeatMarks)) → List (Stage (PhysOperator H)) → SinkStage K →
    List (Lane (PhysOperator H) K) → Type 0
LanesOpened sink ss before after' stages target [] = before ≡ after'
LanesOpened sink ss before after' stages target (x ∷ lanes) =
    (mid : List (List SeatMarks)) × LaneOpened sink ss before mid stages target x
    × LanesOpened sink ss mid after' stages target lanes

-- ---- what seats did

abbrev pub sum_of : List SeatMarks → Acts
sum_of seats = record { marked = all_marked seats; won = map won_key (all_won seats) }

pub record SameActs (a b : Acts) : Type 0 where
  pub marked : SameKeys a.marked b.marked
  pub won : SameKeys a.won b.won

abbrev pub AllSameActs : List Acts → List Acts → Type 0
AllSameActs [] [] = Unit {0}
AllSameActs [] (b ∷ news) = ⊥
AllSameActs (a ∷ olds) [] = ⊥
AllSameActs (a ∷ olds) (b ∷ news) = SameActs a b × AllSameActs olds news

-- ---- a lane leaves its first stage

abbrev pub seats_in : Option SeatMarks → List SeatMarks
seats_in None = []
seats_in (Some seat) = seat ∷ []

-- the seat of a lane's first stage
abbrev pub first_seats : {H : Type 0} → List (Stage (PhysOperator H)) → List SeatMarks
first_seats [] = []
first_seats (st ∷ sts) = seats_in (seat_of st.operator)

abbrev pub front_seats : {H K : Type 0} → Lane (PhysOperator H) K → List SeatMarks
front_seats lane = first_seats lane.stages.items

-- the first stage is taken off, without its seat
pub record LaneOff {H K : Type 0} (old new : Lane (PhysOperator H) K) : Type 0 where
  pub stage : Stage (PhysOperator H)
  pub stages : old.stages.items ≡ stage ∷ new.stages.items
  pub flushers : new.flushers.items ≡ old.flushers.items ++ stage_with None stage ∷ []
  pub target : new.target ≡ old.target
  pub entries : new.entries.items ≡ old.entries.items
  pub refused : new.refused ≡ old.refused

abbrev pub LanesOff : {H K : Type 0} → (old new : List (Lane (PhysOperator H) K)) → Type 0
LanesOff [] [] = Unit {0}
LanesOff [] (y ∷ new) = ⊥
LanesOff (x ∷ old) [] = ⊥
LanesOff (x ∷ old) (y ∷ new) = LaneOff x y × LanesOff old new

-- the first stage is taken off, its seat is free again
pub record LaneLeft {H K : Type 0} (before after' : List SeatMarks)
    (old new : Lane (PhysOperator H) K) : Type 0 where
  pub stage : Stage (PhysOperator H)
  pub stages : old.stages.items ≡ stage ∷ new.stages.items
  pub seats : after' ≡ before ++ seats_in (seat_of stage.operator)
  pub flushers : new.flushers.items ≡ old.flushers.items ++ stage_with None stage ∷ []
  pub target : new.target ≡ old.target
  pub entries : new.entries.items ≡ old.entries.items
  pub refused : new.refused ≡ old.refused

abbrev pub LanesLeft : {H K : Type 0} → (before after' : List SeatMarks) →
    (old new : List (Lane (PhysOperator H) K)) → Type 0
LanesLeft before after' [] [] = after' ≡ before
LanesLeft before after' [] (y ∷ new) = ⊥
LanesLeft before after' (x ∷ old) [] = ⊥
LanesLeft before after' (x ∷ old) (y ∷ new) =
    (mid : List SeatMarks) × LaneLeft before mid x y × LanesLeft mid after' old new

-- the first stage of each lane is taken off: what that read, and all seats there
pub record StageLeft {H K : Type 0} (slot : Slot H) (seats : List SeatMarks)
    (old new : List (Lane (PhysOperator H) K)) (ss ss' : List (Slot H))
    (free free' : List (List SeatMarks)) : Type 0 where
  pub first : List SeatMarks
  pub shared : ss ≡ slot ∷ ss'
  pub seats_are : free ≡ first ∷ free'
  pub lanes : LanesLeft first seats old new

-- ---- flags while a leg runs

-- the seats that lanes don't hold are of these flags, and with those of the lanes they are all
abbrev pub AreRest : (lanes : ℕ) → Marks → (free : List SeatMarks) → Type 0
AreRest lanes (marks.Running flags) free =
    All (IsSeatOf flags.table) free × (length free + lanes ≡ flags.seats)
AreRest lanes (marks.Closed flags) free = ⊥

abbrev pub IsRest : {H : Type 0} → (lanes : ℕ) → Slot H → (free : List SeatMarks) → Type 0
IsRest lanes Empty free = Unit {0}
IsRest lanes (Keys t) free = Unit {0}
IsRest lanes (Rows f) free = Unit {0}
IsRest lanes (Full t) free = AreRest lanes t.marks free
IsRest lanes Spent free = Unit {0}

abbrev pub AllRest : {H : Type 0} → (lanes : ℕ) → List (Slot H) → (free : List (List SeatMarks)) →
    Type 0
AllRest lanes [] [] = Unit {0}
AllRest lanes [] (v ∷ vs) = ⊥
AllRest lanes (s ∷ ss) [] = ⊥
AllRest lanes (s ∷ ss) (v ∷ vs) = IsRest lanes s v × AllRest lanes ss vs
