-- What came to a place is among what has to come there.
use Rattle.std.specs.Prelude.{◌≡◌, ℕ, ◌<◌, ◌≤◌, List, [], ◌∷◌, ◌++◌, Bool, true, false, length}
use Rattle.std.specs.List.{flat_map}
use Rattle.pipe_schema.specs.Rows.{Row}
use Rattle.pipe_schema.specs.Weights.{total}
use Rattle.pipe_schema.proofs.Weights.{SameBag}
use Rattle.pipe_plan.specs.Plan.{Plan}
use Rattle.pipe_plan.specs.PlanRows.{rows_of}
use Rattle.pipe_plan.specs.Under.{is_under}
use Rattle.pipe_plan.specs.Faults.{IsWellFormed}
use Rattle.pipe_driver.specs.Meaning.{Meaning, Place, OutOf, due, meaning_of}
use Rattle.pipe_driver.specs.Legs.{Way, ways_of}
use Rattle.pipe_driver.specs.Ways.{occurs, starts_of, IsSoundMeaning}
use Rattle.pipe_driver.specs.State.{World, Counts, Spent, IsOpen, IsLeft, IsBetween, IsPassing}
use Rattle.pipe_driver.specs.declared.error.RunError.{RunError}
use Rattle.pipe_driver.specs.declared.error.RunError.TheVariants as error

-- what a join gave for keys is among what it has of its own
pub record GaveOwn (m : Meaning) (w : World) (j : ℕ) : Type 0 where
  pub rest : List Row
  pub is : SameBag (m.own j) (w.gained j ++ rest)

-- what came to a place is among what has to come there, by any weights of rows
abbrev pub IsWithin : Meaning → World → Place → Type 0
IsWithin m w x = (weight : Row → ℕ) → total weight (w.there x) ≤ total weight (due m x)

-- each join that isn't closed gave no more than its own
abbrev pub GiveOwn : Meaning → World → Counts → Type 0
GiveOwn m w c = (j : ℕ) → 0 < occurs j m.joins → 0 < c.probers j → GaveOwn m w j

-- so it is at each point of a run
abbrev pub RowsStayWithin : Type 0
RowsStayWithin =
    (m : Meaning) (w : World) (c : Counts) (due_at : ℕ → ℕ) (now : List ℕ) (but : ℕ → Bool)
    (live todo : List Way) (x : Place) → IsLeft m w c due_at now but live todo → IsOpen m c x
    → GiveOwn m w c → IsWithin m w x

-- a join gave no more than its own where no more rows probed it than its probe side has
abbrev pub GivesOfProbed : Meaning → World → ℕ → Type 0
GivesOfProbed m w j = IsWithin m w (OutOf (m.probed j)) → GaveOwn m w j

-- so each of them does: what came to it is what others gave that are below it on their chains
abbrev pub JoinsGiveOwn : Type 0
JoinsGiveOwn =
    (m : Meaning) (w : World) (c : Counts) (due_at : ℕ → ℕ) (now : List ℕ) (but : ℕ → Bool)
    (live todo : List Way) → IsSoundMeaning m → IsLeft m w c due_at now but live todo
    → ((j : ℕ) → 0 < c.probers j → m.is_join j ≡ true → GivesOfProbed m w j)
    → ((j : ℕ) → m.is_join j ≡ false → GaveOwn m w j) → GiveOwn m w c

-- ---- where no branch is left

-- all rows of each node that is run have come out of it
abbrev pub RowsAreThere : Type 0
RowsAreThere =
    (m : Meaning) (w : World) (c : Counts) → IsBetween m w c [] [] → (n : ℕ) → m.is_run n ≡ true
    → SameBag (w.there (OutOf n)) (m.rows n)

-- each node under the root has no more rows than the limit
abbrev pub AllWithin : ℕ → Plan → ℕ → Type 0
AllWithin limit plan root =
    (n : ℕ) → is_under plan.nodes root n ≡ true → length (rows_of plan n) ≤ limit

-- so have those that are run
abbrev pub RunAreWithin : ℕ → Plan → ℕ → Type 0
RunAreWithin limit plan root =
    (n : ℕ) → (meaning_of plan root).is_run n ≡ true → length (rows_of plan n) ≤ limit

-- all nodes are within a limit where those are that are run: any other is a scan that a union of
-- scans reads, and has no more rows than that
abbrev pub RunNodesTellAll : Type 0
RunNodesTellAll =
    (plan : Plan) (root limit : ℕ) → IsWellFormed plan root → RunAreWithin limit plan root
    → AllWithin limit plan root

-- a node that is run is a node of the plan
abbrev pub RunNodesAreLow : Type 0
RunNodesAreLow =
    (plan : Plan) (root n : ℕ) → IsWellFormed plan root
    → (meaning_of plan root).is_run n ≡ true → n < length plan.nodes

-- ---- nodes that are run

-- what is behind a node on its chain is run, and so are sorts and joins; such nodes are the plan's
pub record GoThroughRun (m : Meaning) : Type 0 where
  pub next : (n op : ℕ) (ops : List ℕ) → m.above n ≡ op ∷ ops → m.is_run op ≡ true
  pub sorts : (n : ℕ) → m.is_sort n ≡ true → m.is_run n ≡ true
  pub joins : (n : ℕ) → m.is_join n ≡ true → m.is_run n ≡ true
  pub low : (n : ℕ) → m.is_run n ≡ true → n < m.ordered

abbrev pub ChainsAreRun : Type 0
ChainsAreRun =
    (plan : Plan) (root : ℕ) → IsWellFormed plan root → GoThroughRun (meaning_of plan root)

-- so is each node that a leg begins at
abbrev pub LegsBeginAtRunNodes : Type 0
LegsBeginAtRunNodes =
    (plan : Plan) (root n : ℕ) → IsWellFormed plan root
    → 0 < occurs n (flat_map starts_of (ways_of plan root))
    → (meaning_of plan root).is_run n ≡ true

-- ---- what a refusal tells

-- a join that isn't spent gave no more than its own, if no more rows probed it than its probe side
-- has; what is no join gave nothing but its own
pub record GivesNoMore (m : Meaning) (w : World) (j : ℕ) : Type 0 where
  pub joins : m.is_join j ≡ true → (w.slot j ≡ Spent → ⊥) → GivesOfProbed m w j
  pub others : m.is_join j ≡ false → GaveOwn m w j

-- more rows than a limit came out of a node that legs go through, and none gives more than its own
pub record GivesMany (m : Meaning) (limit : ℕ) (w : World) (n : ℕ) : Type 0 where
  pub run : GoThroughRun m → m.is_run n ≡ true
  pub each : (j : ℕ) → GivesNoMore m w j
  pub many : GoThroughRun m → limit < length (w.there (OutOf n))

-- a node that is run has more rows than a limit
pub record IsWide (m : Meaning) (limit n : ℕ) : Type 0 where
  pub run : m.is_run n ≡ true
  pub many : limit < length (m.rows n)

-- a node that gave more rows than a limit while a leg ran has more than that
abbrev pub ManyAreWide : Type 0
ManyAreWide =
    (m : Meaning) (w : World) (c : Counts) (now : List ℕ) (s : ℕ) (parked todo : List Way)
    (limit n : ℕ) → IsSoundMeaning m → IsPassing m w c now s parked todo → GoThroughRun m
    → GivesMany m limit w n → IsWide m limit n

-- a node under the root has more rows than the limit
pub record HasTooMany (limit : ℕ) (plan : Plan) (root n : ℕ) : Type 0 where
  pub under : is_under plan.nodes root n ≡ true
  pub above : limit < length (rows_of plan n)

-- what an error says of a plan: no memory, a stop, or a node with too many rows
abbrev pub RunEndsWith : ℕ → Plan → ℕ → RunError → Type 0
RunEndsWith limit plan root (error.TooMany n) = HasTooMany limit plan root n
RunEndsWith limit plan root error.Stopped = Unit {0}
RunEndsWith limit plan root error.Memory = Unit {0}

-- a wide node that is run stands under the root
abbrev pub WideAreUnder : Type 0
WideAreUnder =
    (plan : Plan) (root limit n : ℕ) → IsWide (meaning_of plan root) limit n
    → HasTooMany limit plan root n
