-- The steps of a run, as statements: what is known before one is known after it.
use Rattle.std.specs.Prelude.{◌≡◌, ℕ, ◌<◌, List, [], ◌∷◌, true}
use Rattle.std.specs.List.{AllByRecursion}
use Rattle.pipe_schema.proofs.Weights.{SameBag}
use Rattle.pipe_plan.specs.Plan.{Plan}
use Rattle.pipe_plan.specs.Faults.{IsWellFormed}
use Rattle.pipe_driver.specs.Meaning.{Meaning, OutOf, meaning_of}
use Rattle.pipe_driver.specs.Legs.{Leg, Way, ways_of}
use Rattle.pipe_driver.specs.Ways.{way_through, CanRun, IsSoundMeaning}
use Rattle.pipe_driver.specs.State.{World, Counts, IsBuilt, IsBetween, IsReady, IsPassing, IsFed, HasTail, HasPassed, HasSettled, IsLowered, HasClosed, TakesOut, BeginsElsewhere, IsStart}

-- counts with other counts of legs that go through nodes, or that feed sinks
abbrev pub with_probers : Counts → (ℕ → ℕ) → Counts
with_probers c probers = record { sinks = c.sinks; probers = probers }

abbrev pub with_sinks : Counts → (ℕ → ℕ) → Counts
with_sinks c sinks = record { sinks = sinks; probers = c.probers }

-- before the first of them runs, branches that can be run are all that is left
abbrev pub BranchesStart : Type 0
BranchesStart =
    (m : Meaning) (w : World) (c : Counts) (ps : List Way) → IsSoundMeaning m → CanRun m ps
    → IsStart w c ps → IsBetween m w c [] ps

-- those of a well-formed plan can be
abbrev pub PlansStart : Type 0
PlansStart =
    (plan : Plan) (root : ℕ) (w : World) (c : Counts) → IsWellFormed plan root
    → IsStart w c (ways_of plan root)
    → IsBetween (meaning_of plan root) w c [] (ways_of plan root)

-- the next branch can begin
abbrev pub BranchesBegin : Type 0
BranchesBegin =
    (m : Meaning) (w : World) (c : Counts) (p : Way) (parked todo : List Way)
    → IsBetween m w c parked (p ∷ todo) → IsReady m w c p parked todo

-- where a way can go on, each join that it goes through is built
abbrev pub JoinsAreBuilt : Type 0
JoinsAreBuilt =
    (m : Meaning) (w : World) (c : Counts) (p : Way) (parked todo : List Way) → IsSoundMeaning m
    → IsReady m w c p parked todo → (j : ℕ) → m.is_join j ≡ true → 0 < way_through j p
    → IsBuilt m j (w.slot j)

-- the rows of its first leg go along its chain, and what is left of the way waits
abbrev pub LegsPass : Type 0
LegsPass =
    (m : Meaning) (old new : World) (c : Counts) (p : Way) (leg : Leg) (legs : List Leg)
    (parked later todo : List Way)
    → IsSoundMeaning m → IsReady m old c p parked todo → p.legs ≡ leg ∷ legs
    → HasPassed m p.start (m.rows p.start) old new → HasTail leg.sink legs parked later
    → IsPassing m new c leg.operators leg.sink later todo

-- the leg is counted at a node that others still go through
abbrev pub LegsAreCounted : Type 0
LegsAreCounted =
    (m : Meaning) (w : World) (c : Counts) (probers : ℕ → ℕ) (op : ℕ) (now : List ℕ) (s : ℕ)
    (parked todo : List Way)
    → IsPassing m w c (op ∷ now) s parked todo → IsLowered op c.probers probers
    → 0 < probers op → IsPassing m w (with_probers c probers) now s parked todo

-- where it is the last that goes through a join, all rows of the probe side came there
abbrev pub ProbeSidesAreSeen : Type 0
ProbeSidesAreSeen =
    (m : Meaning) (w : World) (c : Counts) (j : ℕ) (now : List ℕ) (s : ℕ) (parked todo : List Way)
    → IsSoundMeaning m → IsPassing m w c (j ∷ now) s parked todo → m.is_join j ≡ true
    → c.probers j ≡ 1 → SameBag (w.there (OutOf (m.probed j))) (m.rows (m.probed j))

-- and the join is closed
abbrev pub JoinsAreClosed : Type 0
JoinsAreClosed =
    (m : Meaning) (old new : World) (c : Counts) (probers : ℕ → ℕ) (op : ℕ) (now : List ℕ) (s : ℕ)
    (parked todo : List Way)
    → IsSoundMeaning m → IsPassing m old c (op ∷ now) s parked todo → IsLowered op c.probers probers
    → probers op ≡ 0 → HasSettled m op old new
    → IsPassing m new (with_probers c probers) now s parked todo

-- at last the leg is counted at its sink, which holds the rows of the node below if it was the last
abbrev pub SinksAreFed : Type 0
SinksAreFed =
    (m : Meaning) (w : World) (c : Counts) (sinks : ℕ → ℕ) (s : ℕ) (parked todo : List Way)
    → IsSoundMeaning m → IsPassing m w c [] s parked todo → IsLowered s c.sinks sinks
    → IsFed m w (with_sinks c sinks) s parked todo

-- a sink that other legs still feed stays as it is
abbrev pub SinksStayOpen : Type 0
SinksStayOpen =
    (m : Meaning) (w : World) (c : Counts) (s : ℕ) (parked todo : List Way)
    → IsFed m w c s parked todo → 0 < c.sinks s → IsBetween m w c parked todo

-- another is closed: a build fills the slot of its join
abbrev pub SinksAreClosed : Type 0
SinksAreClosed =
    (m : Meaning) (old new : World) (c : Counts) (s : ℕ) (parked todo : List Way)
    → IsFed m old c s parked todo → c.sinks s ≡ 0 → HasClosed s old new
    → (m.is_join s ≡ true → IsBuilt m s (new.slot s)) → AllByRecursion (BeginsElsewhere s) parked
    → IsBetween m new c parked todo

-- behind a sort the way that waited for it goes on
abbrev pub WaysGoOn : Type 0
WaysGoOn =
    (m : Meaning) (old new : World) (c : Counts) (s : ℕ) (q : Way) (parked later todo : List Way)
    → IsSoundMeaning m → m.is_sort s ≡ true → IsFed m old c s parked todo → c.sinks s ≡ 0
    → HasClosed s old new → TakesOut s q parked later → IsReady m new c q later todo

-- where no branch is left, each sink is closed
abbrev pub NoneIsOpen : Type 0
NoneIsOpen =
    (m : Meaning) (w : World) (c : Counts) (parked : List Way) → IsBetween m w c parked []
    → (s : ℕ) → c.sinks s ≡ 0
