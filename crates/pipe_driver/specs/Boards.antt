-- A plan as the events of a run see it, and as its legs do.
use Rattle.std.specs.Prelude.{◌≡◌, ℕ, ◌<◌, List, [], ◌∷◌, Bool, true, false, ◌==◌, ◌⊎◌, if◌then◌else◌, filter, length, Option, Some, None}
use Rattle.std.specs.List.{list_any}
use Rattle.pipe_schema.specs.Rows.{Row}
use Rattle.pipe_plan.specs.Plan.{Plan}
use Rattle.pipe_events.specs.Stages.{JoinStage, Stage, Stages, Scan, Each, Union, Sort, Joined, IsStages, feeds}
use Rattle.pipe_events.specs.PlanStages.{Setting, stage_at, stages_of}
use Rattle.pipe_events.specs.Runs.{IsTree}
use Rattle.pipe_driver.specs.Shape as kind
use Rattle.pipe_driver.specs.Shape.{Kind, Begins, Unites, Joins, Sorts}
use Rattle.pipe_driver.specs.Chains.{reader, chain_of}
use Rattle.pipe_driver.specs.Meaning.{Meaning, is_part, meaning_of}
use Rattle.pipe_driver.specs.Ways.{IsSoundMeaning}

pub record Board : Type 0 where
  pub stages : Stages
  pub m : Meaning
  -- the node at which the leg begins that takes the rows of a node: the node itself, but for a scan
  -- that a union reads together with others
  pub source_of : ℕ → ℕ

-- ---- what a source has

-- the nodes whose rows may be taken where a leg begins at a node: its own, and those of the scans
-- that a union reads
abbrev pub may_hold : ℕ → Stage → List ℕ
may_hold n (Scan rows) = n ∷ []
may_hold n (Each input op) = []
may_hold n (Union inputs) = inputs
may_hold n (Sort input sorted) = n ∷ []
may_hold n (Joined j) = []

-- whether the rows of a node are taken by the leg that begins at node x
abbrev pub is_held : Board → (x n : ℕ) → Bool
is_held b x n = b.source_of n == x

-- the nodes whose rows that leg takes, in order
abbrev pub held_at : Board → ℕ → List ℕ
held_at b x = filter (is_held b x) (may_hold x (b.stages.stage x))

-- whether a leg begins at a node of this kind, that isn't read by a union together with others
abbrev pub begins_leg : Kind → Bool
begins_leg Begins = true
begins_leg (kind.Each input) = false
begins_leg (Unites inputs) = false
begins_leg (Joins built probed) = false
begins_leg (Sorts input) = true

-- ---- the board of a plan

abbrev pub or_itself : ℕ → Option ℕ → ℕ
or_itself n None = n
or_itself n (Some r) = r

-- where the leg begins that takes a node's rows: at the union that reads it together with other
-- scans, or at the node itself
abbrev pub start_of : Plan → (root : ℕ) → ℕ → ℕ
start_of plan root n =
    if is_part plan root n
    then or_itself n (reader (stage_at plan root) (length plan.nodes) n) else n

abbrev pub board_of : Plan → (root : ℕ) → Setting → Board
board_of plan root setting = record {
  stages = stages_of plan root setting;
  m = meaning_of plan root;
  source_of = start_of plan root;
}

-- ---- what the board of each well-formed plan grants

abbrev pub is_scan : Stage → Bool
is_scan (Scan rows) = true
is_scan (Each input op) = false
is_scan (Union inputs) = false
is_scan (Sort input sorted) = false
is_scan (Joined j) = false

abbrev pub is_union : Stage → Bool
is_union (Scan rows) = false
is_union (Each input op) = false
is_union (Union inputs) = true
is_union (Sort input sorted) = false
is_union (Joined j) = false

-- node n is a scan that union u reads, and its rows go on as those of the union do
pub record IsPart (b : Board) (n u : ℕ) : Type 0 where
  pub scan : is_scan (b.stages.stage n) ≡ true
  pub union : is_union (b.stages.stage u) ≡ true
  pub fed : list_any (λ i. i == n) (feeds (b.stages.stage u)) ≡ true
  pub above : b.m.above n ≡ u ∷ b.m.above u
  pub above_sink : b.m.above_sink n ≡ b.m.above_sink u

pub record IsSortAt (plan : Stages) (n : ℕ) : Type 0 where
  pub input : ℕ
  pub sorted : List Row → List Row
  pub is : plan.stage n ≡ Sort input sorted

pub record IsJoinAt (plan : Stages) (n : ℕ) : Type 0 where
  pub join : JoinStage
  pub is : plan.stage n ≡ Joined join

pub record IsBoard (b : Board) : Type 0 where
  pub ok : IsStages b.stages
  pub tree : IsTree b.stages
  pub sound : IsSoundMeaning b.m
  -- what isn't a union of nothing stands in the plan
  pub inside : (n : ℕ) → (b.stages.stage n ≡ Union [] → ⊥) → n < b.stages.size
  -- sorts and joins are those of the stages
  pub sort : (n : ℕ) → IsSortAt b.stages n → b.m.is_sort n ≡ true
  pub is_sort : (n : ℕ) → b.m.is_sort n ≡ true → IsSortAt b.stages n
  pub join : (n : ℕ) → IsJoinAt b.stages n → b.m.is_join n ≡ true
  pub is_join : (n : ℕ) → b.m.is_join n ≡ true → IsJoinAt b.stages n
  -- the sink of the root goes by the number of all nodes
  pub ordered : b.m.ordered ≡ b.stages.size
  -- chains are those of the readers
  pub above : (n : ℕ) → b.m.above n ≡ (chain_of b.stages.stage b.stages.size n).operators
  pub above_sink : (n : ℕ) → b.m.above_sink n ≡ (chain_of b.stages.stage b.stages.size n).sink
  -- a node's rows are taken at the node, or at the union that reads it
  pub source : (n : ℕ) → (b.source_of n ≡ n) ⊎ IsPart b n (b.source_of n)
