-- The laws of branches, leg by leg.
use Rattle.std.specs.Prelude.{◌≡◌, ℕ, ◌<◌, ◌≤◌, List, ◌++◌, true}
use Rattle.std.specs.List.{flat_map, AllByRecursion}
use Rattle.pipe_schema.specs.Rows.{Same}
use Rattle.pipe_schema.specs.Weights.{total}
use Rattle.pipe_plan.specs.Plan.{Plan}
use Rattle.pipe_plan.specs.PlanRows.{rows_of}
use Rattle.pipe_plan.specs.Faults.{IsWellFormed}
use Rattle.pipe_driver.specs.Shape.{sources_of}
use Rattle.pipe_driver.specs.Meaning.{Meaning, OutOf, Into, is_place, meaning_of}
use Rattle.pipe_driver.specs.Legs.{Way, ways_of}
use Rattle.pipe_driver.specs.Ways.{feeds, passes, begun, starts_of, brought, own_brings, IsWay, AreOrdered, CanRun, IsSoundMeaning}

-- each leg of a plan's branches is the chain of where it begins, goes upwards, and goes on only
-- behind a sort's sink
abbrev pub LegsAreChains : Type 0
LegsAreChains =
    (plan : Plan) (root : ℕ) → IsWellFormed plan root
    → AllByRecursion (IsWay (meaning_of plan root)) (ways_of plan root)

-- from the first branch on that goes through a join, no leg feeds a sink of the side that is built
abbrev pub BuiltSidesComeFirst : Type 0
BuiltSidesComeFirst =
    (plan : Plan) (root : ℕ) → IsWellFormed plan root
    → AreOrdered (meaning_of plan root) (ways_of plan root)

-- the legs begin at the sources under the root, each once
abbrev pub LegsBeginAtSources : Type 0
LegsBeginAtSources =
    (plan : Plan) (root : ℕ) → IsWellFormed plan root → (weight : ℕ → ℕ)
    → total weight (flat_map starts_of (ways_of plan root))
    ≡ total weight (sources_of plan.nodes root)

-- at most one leg begins at a node
abbrev pub LegsBeginOnce : Type 0
LegsBeginOnce =
    (plan : Plan) (root n : ℕ) → IsWellFormed plan root → begun n (ways_of plan root) ≤ 1

-- each join under the root is gone through, and its build sink is fed
pub record IsRun (m : Meaning) (ps : List Way) (j : ℕ) : Type 0 where
  pub through : 0 < passes j ps
  pub fed : 0 < feeds j ps

abbrev pub EveryJoinIsRun : Type 0
EveryJoinIsRun =
    (plan : Plan) (root j : ℕ) → IsWellFormed plan root
    → (meaning_of plan root).is_join j ≡ true
    → IsRun (meaning_of plan root) (ways_of plan root) j

-- What comes into a sink, and out of a node, from all legs and from what joins have of their own,
-- each along its chain
abbrev pub SinksHaveTheirRows : Type 0
SinksHaveTheirRows =
    (plan : Plan) (root s : ℕ) → IsWellFormed plan root
    → is_place (meaning_of plan root) (Into s) ≡ true
    → Same (brought (meaning_of plan root) (Into s) (ways_of plan root)
    ++ flat_map (own_brings (meaning_of plan root) (Into s)) (meaning_of plan root).joins)
    ((meaning_of plan root).below s)

abbrev pub NodesHaveTheirRows : Type 0
NodesHaveTheirRows =
    (plan : Plan) (root n : ℕ) → IsWellFormed plan root
    → (meaning_of plan root).is_run n ≡ true
    → Same (brought (meaning_of plan root) (OutOf n) (ways_of plan root)
    ++ flat_map (own_brings (meaning_of plan root) (OutOf n)) (meaning_of plan root).joins)
    (rows_of plan n)

-- all of it: the branches of a plan can be run, in order
abbrev pub BranchesCanRun : Type 0
BranchesCanRun =
    (plan : Plan) (root : ℕ) → IsWellFormed plan root
    → CanRun (meaning_of plan root) (ways_of plan root)

-- the meaning of a plan is sound: its joins stand once, chains go on, and so on
abbrev pub MeaningsAreSound : Type 0
MeaningsAreSound =
    (plan : Plan) (root : ℕ) → IsWellFormed plan root → IsSoundMeaning (meaning_of plan root)
