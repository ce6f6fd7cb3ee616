-- A plan as its schedules see it. Each node is a stage: it has rows of its own, and makes rows of
-- those that pass it.
use Rattle.std.specs.Prelude.{◌≡◌, ℕ, ◌<◌, List, [], ◌∷◌, ◌++◌, Bool, true, false, not, if◌then◌else◌, ◌==◌, ◌||◌}
use Rattle.std.specs.List.{flat_map, list_any}
use Rattle.pipe_schema.specs.Rows.{Row, Same}
use Rattle.pipe_schema.specs.declared.any_value.AnyValue.{AnyValue}
use Rattle.pipe_expr.specs.Joins.{Join, join_rows, key_of}
use Rattle.pipe_expr.specs.Shares.{met_by, probe_share, built_share}
use Rattle.pipe_expr.specs.declared.join_words.JoinType.{JoinType}
use Rattle.pipe_expr.specs.declared.join_words.JoinType.TheVariants as how
use Rattle.pipe_plan.specs.Walk.{walk}

-- the values of a join's key formulas
abbrev pub Key : Type 0
Key = List AnyValue

-- a join, with the side that is built, and the nodes of both sides
pub record JoinStage : Type 0 where
  pub join : Join
  pub right_built : Bool
  pub probe : ℕ
  pub build : ℕ

-- `Each` is what goes row by row: filters, projections, unpivots and renamings
pub data Stage : Type 0 where
  Scan : (rows : List Row) → Stage
  Each : (input : ℕ) → (op : Row → List Row) → Stage
  Union : (inputs : List ℕ) → Stage
  Sort : (input : ℕ) → (sorted : List Row → List Row) → Stage
  Joined : (join : JoinStage) → Stage

pub record Stages : Type 0 where
  pub size : ℕ
  pub stage : ℕ → Stage  -- a node that isn't under the root is a union of nothing
  pub root : ℕ
  pub workers : ℕ
  pub parts : ℕ  -- the partitions of each table
  pub part : Key → ℕ  -- the partition of a key

-- ---- joins by the side that is built

-- the key of a row of the built side
abbrev pub build_key : JoinStage → Row → Key
build_key j row =
    if j.right_built then key_of j.join.right j.join.right_on row
    else key_of j.join.left j.join.left_on row

-- whether a built and a probed row match
abbrev pub matches_built : JoinStage → (built probed : Row) → Bool
matches_built j built probed = met_by j.join j.right_built built probed

-- a join that marks the keys that it probes: a full join, or a semi or anti join whose left side is
-- built
abbrev pub marks_by : JoinType → (right_built : Bool) → Bool
marks_by how.Inner right_built = false
marks_by how.Left right_built = false
marks_by how.Full right_built = true
marks_by how.Cross right_built = false
marks_by how.Semi right_built = not right_built
marks_by how.Anti right_built = not right_built

abbrev pub marks : JoinStage → Bool
marks j = marks_by j.join.how j.right_built

-- a join that flushes built rows without a mark: a full join, or an anti join whose left side is
-- built
abbrev pub flushes_by : JoinType → (right_built : Bool) → Bool
flushes_by how.Inner right_built = false
flushes_by how.Left right_built = false
flushes_by how.Full right_built = true
flushes_by how.Cross right_built = false
flushes_by how.Semi right_built = false
flushes_by how.Anti right_built = not right_built

abbrev pub flushes : JoinStage → Bool
flushes j = flushes_by j.join.how j.right_built

-- ---- the rows of a node

abbrev pub joined_rows : JoinStage → (probed built : List Row) → List Row
joined_rows j probed built =
    if j.right_built then join_rows j.join probed built else join_rows j.join built probed

abbrev pub stage_rows : (ℕ → List Row) → Stage → List Row
stage_rows at (Scan rows) = rows
stage_rows at (Each input op) = flat_map op (at input)
stage_rows at (Union inputs) = flat_map at inputs
stage_rows at (Sort input sorted) = sorted (at input)
stage_rows at (Joined j) = joined_rows j (at j.probe) (at j.build)

-- ---- through the operators

-- the inputs whose rows pass through a node
abbrev pub feeds : Stage → List ℕ
feeds (Scan rows) = []
feeds (Each input op) = input ∷ []
feeds (Union inputs) = inputs
feeds (Sort input sorted) = []
feeds (Joined j) = j.probe ∷ []

-- what a node makes of one row that passes, where `built` tells the rows of a build side
abbrev pub through : (built : ℕ → List Row) → Stage → Row → List Row
through built (Scan rows) row = []
through built (Each input op) row = op row
through built (Union inputs) row = row ∷ []
through built (Sort input sorted) row = []
through built (Joined j) row = probe_share j.join j.right_built (built j.build) row

-- what a node has of its own: a scan's rows, a sorted list, the built rows that no probed row gives
abbrev pub own_rows : (ℕ → List Row) → Stage → List Row
own_rows at (Scan rows) = rows
own_rows at (Each input op) = []
own_rows at (Union inputs) = []
own_rows at (Sort input sorted) = sorted (at input)
own_rows at (Joined j) = built_share j.join j.right_built (at j.probe) (at j.build)

-- a bag at one node
abbrev pub only : ℕ → List Row → ℕ → List Row
only n bag k = if k == n then bag else []

module _ (plan : Stages) where
  abbrev pub rows_at : (ℕ → List Row) → ℕ → List Row
  rows_at at k = stage_rows at (plan.stage k)

  abbrev pub rows_to : ℕ → ℕ → List Row
  rows_to = walk [] rows_at

  -- the rows of a node
  abbrev pub rows : ℕ → List Row
  rows = rows_to plan.size

  -- what a node makes of what comes to it
  abbrev pub made : (built : ℕ → List Row) → (ℕ → List Row) → ℕ → List Row
  made built at k = flat_map (through built (plan.stage k)) (flat_map at (feeds (plan.stage k)))

  abbrev pub flow_at : (built own : ℕ → List Row) → (ℕ → List Row) → ℕ → List Row
  flow_at built own at k = own k ++ made built at k

  -- what comes out of each node, where each has a bag of its own
  abbrev pub flow_to : (built own : ℕ → List Row) → ℕ → ℕ → List Row
  flow_to built own = walk [] (flow_at built own)

  abbrev pub flow : (built own : ℕ → List Row) → ℕ → List Row
  flow built own = flow_to built own plan.size

  abbrev pub reach_at : ℕ → (ℕ → Bool) → ℕ → Bool
  reach_at n at k = (k == n) || list_any at (feeds (plan.stage k))

  abbrev pub reaches_to : ℕ → ℕ → ℕ → Bool
  reaches_to n = walk false (reach_at n)

  -- whether the rows of node n come to node t, along the chain of n
  abbrev pub reaches : ℕ → ℕ → Bool
  reaches n = reaches_to n plan.size

-- ---- plans

-- the inputs that the laws read stand below the node
abbrev pub IsBelow : ℕ → Stage → Type 0
IsBelow k (Scan rows) = Unit {0}
IsBelow k (Each input op) = Unit {0}
IsBelow k (Union inputs) = Unit {0}
IsBelow k (Sort input sorted) = input < k
IsBelow k (Joined j) = (j.probe < k) × (j.build < k)

-- a sort gives one list for all lists that have the rows of its input
abbrev pub GivesOneList : (ℕ → List Row) → Stage → Type 0
GivesOneList at (Scan rows) = Unit {0}
GivesOneList at (Each input op) = Unit {0}
GivesOneList at (Union inputs) = Unit {0}
GivesOneList at (Sort input sorted) =
    (bag : List Row) → Same bag (at input) → sorted bag ≡ sorted (at input)
GivesOneList at (Joined j) = Unit {0}

-- a left join has its right side built
abbrev pub is_built_by : JoinType → (right_built : Bool) → Bool
is_built_by how.Inner right_built = true
is_built_by how.Left right_built = right_built
is_built_by how.Full right_built = true
is_built_by how.Cross right_built = true
is_built_by how.Semi right_built = true
is_built_by how.Anti right_built = true

abbrev pub IsBuiltRight : Stage → Type 0
IsBuiltRight (Scan rows) = Unit {0}
IsBuiltRight (Each input op) = Unit {0}
IsBuiltRight (Union inputs) = Unit {0}
IsBuiltRight (Sort input sorted) = Unit {0}
IsBuiltRight (Joined j) = is_built_by j.join.how j.right_built ≡ true

-- what the check of a plan grants
pub record IsStages (plan : Stages) : Type 0 where
  pub below : (k : ℕ) → k < plan.size → IsBelow k (plan.stage k)
  pub one_list : (k : ℕ) → k < plan.size → GivesOneList (rows plan) (plan.stage k)
  pub built_right : (k : ℕ) → IsBuiltRight (plan.stage k)
  pub rooted : plan.root < plan.size
  pub parted : (key : Key) → plan.part key < plan.parts
