-- The branches of a plan: how it is cut into pipelines, each from a source through operators to the
-- sinks that it feeds. (polars-pipe leaves the cutting to another crate of Polars; here it is one walk
-- over the nodes upwards, as are the schemas and the rows.)
--
-- A worked case. Node 2 is an inner join of scans 0 and 1 that builds the left side, node 3 a sort of
-- it, and the root. Of node 0 there is the path from 0, open; of node 1 the one from 1. The join closes
-- the first by its build sink and puts itself on the second. The sort is put there as a sink, and that
-- path stays open, since it is the first; the root closes it. So there are two branches:
--   source 0, no operator, sinks: before any operator Build 2, which is sink 0
--   source 1, operator 2, sinks: after one operator Sort 3, which is sink 1, and Ordered, sink 2
use Rattle.std.specs.Prelude.{ℕ, suc, List, [], ◌∷◌, ◌++◌, Bool, true, false, not, ◌==◌, ◌||◌, if◌then◌else◌, length, map}
use Rattle.std.specs.List.{flat_map, list_any, list_all}
use Rattle.pipe_plan.specs.Walk.{walk}
use Rattle.pipe_plan.specs.Node.{Node}
use Rattle.pipe_plan.specs.Node as node
use Rattle.pipe_plan.specs.Plan.{Plan}
use Rattle.pipe_plan.specs.Under.{node_at}
use Rattle.pipe_plan.specs.Swap.{swaps}
use Rattle.pipe_plan.specs.declared.ir.JoinOptions.{JoinOptions}
use Rattle.pipe_driver.specs.declared.branch.SinkAt.{SinkAt}
use Rattle.pipe_driver.specs.declared.branch.SinkAt.TheVariants as at
use Rattle.pipe_driver.specs.declared.branch.SinkNode.{SinkNode}
use Rattle.pipe_driver.specs.declared.branch.Branch.{Branch}

-- a sink of a path, and how many of the path's operators stand before it
pub record PlacedSink : Type 0 where
  pub offset : ℕ
  pub at : SinkAt

-- a branch as far as it goes: its source, its operators, its sinks, and whether it goes on
pub record Path : Type 0 where
  pub source : ℕ
  pub operators : List ℕ
  pub sinks : List PlacedSink
  pub is_open : Bool

abbrev pub path_from : ℕ → Path
path_from n = record { source = n; operators = []; sinks = []; is_open = true }

abbrev pub put_operator : ℕ → Path → Path
put_operator n path = record path { operators = path.operators ++ n ∷ [] }

abbrev pub placed : ℕ → SinkAt → PlacedSink
placed offset at = record { offset = offset; at = at }

-- a path with one more sink, after which it goes on or doesn't
abbrev pub put_sink : Bool → SinkAt → Path → Path
put_sink goes_on at path = record path {
  sinks = path.sinks ++ placed (length path.operators) at ∷ [];
  is_open = goes_on;
}

-- an open path goes through an operator
abbrev pub through : ℕ → Path → Path
through n path = if path.is_open then put_operator n path else path

-- an open path ends in a sink
abbrev pub closed_by : SinkAt → Path → Path
closed_by at path = if path.is_open then put_sink false at path else path

-- each open path gets the sort's sink; the first goes on, unless one went on before, the others end
abbrev pub sorted_paths : ℕ → Bool → List Path → List Path
sorted_paths n is_passed [] = []
sorted_paths n is_passed (path ∷ paths) =
    (if path.is_open then put_sink (not is_passed) (at.Sort n) path else path)
    ∷ sorted_paths n (is_passed || path.is_open) paths

-- ---- the paths of a node

abbrev pub is_scan : Node → Bool
is_scan (node.DataFrameScan frame columns) = true
is_scan (node.Filter input predicate) = false
is_scan (node.SimpleProjection input columns) = false
is_scan (node.Select input exprs) = false
is_scan (node.HStack input exprs) = false
is_scan (node.MapFunction input function) = false
is_scan (node.Union inputs) = false
is_scan (node.Join left right left_on right_on options) = false
is_scan (node.Sort input by options) = false

abbrev pub is_scan_at : List Node → ℕ → Bool
is_scan_at nodes n = is_scan (node_at nodes n)

-- the side of a join that is built, and the one that probes it
abbrev pub built_side : ℕ → ℕ → JoinOptions → ℕ
built_side left right options = if swaps options then right else left

abbrev pub probed_side : ℕ → ℕ → JoinOptions → ℕ
probed_side left right options = if swaps options then left else right

-- a union of scans alone is a source; another one is an operator of its inputs' paths
abbrev pub union_paths : Bool → ℕ → (ℕ → List Path) → List ℕ → List Path
union_paths is_source n below inputs =
    if is_source then path_from n ∷ [] else map (through n) (flat_map below inputs)

-- the side that is built ends in the join's sink, and then come the paths that probe it
abbrev pub join_paths : ℕ → List Path → List Path → List Path
join_paths n built probed = map (closed_by (at.Build n)) built ++ map (through n) probed

-- the paths of node n from those of its inputs
abbrev pub node_paths : List Node → (ℕ → List Path) → ℕ → Node → List Path
node_paths nodes below n (node.DataFrameScan frame columns) = path_from n ∷ []
node_paths nodes below n (node.Filter input predicate) = map (through n) (below input)
node_paths nodes below n (node.SimpleProjection input columns) = map (through n) (below input)
node_paths nodes below n (node.Select input exprs) = map (through n) (below input)
node_paths nodes below n (node.HStack input exprs) = map (through n) (below input)
node_paths nodes below n (node.MapFunction input function) = map (through n) (below input)
node_paths nodes below n (node.Union inputs) =
    union_paths (list_all (is_scan_at nodes) inputs) n below inputs
node_paths nodes below n (node.Join left right left_on right_on options) =
    join_paths n (below (built_side left right options)) (below (probed_side left right options))
node_paths nodes below n (node.Sort input by options) = sorted_paths n false (below input)

abbrev pub paths_at : List Node → (ℕ → List Path) → ℕ → List Path
paths_at nodes below n = node_paths nodes below n (node_at nodes n)

-- the paths up to a node
abbrev pub paths_of : List Node → ℕ → List Path
paths_of nodes n = walk [] (paths_at nodes) (length nodes) n

-- ---- the numbers of sinks

abbrev pub is_ordered : SinkAt → Bool
is_ordered at.Ordered = true
is_ordered (at.Sort n) = false
is_ordered (at.Build n) = false

abbrev pub is_sort : ℕ → SinkAt → Bool
is_sort n at.Ordered = false
is_sort n (at.Sort m) = n == m
is_sort n (at.Build m) = false

abbrev pub is_build : ℕ → SinkAt → Bool
is_build n at.Ordered = false
is_build n (at.Sort m) = false
is_build n (at.Build m) = n == m

abbrev pub eq_sink : SinkAt → SinkAt → Bool
eq_sink at.Ordered b = is_ordered b
eq_sink (at.Sort n) b = is_sort n b
eq_sink (at.Build n) b = is_build n b

-- whether a sink is among those that were named
abbrev pub is_named : List SinkAt → SinkAt → Bool
is_named sinks at = list_any (eq_sink at) sinks

-- the sinks that were named, with one more where it wasn't
abbrev pub add_named : List SinkAt → SinkAt → List SinkAt
add_named sinks at = if is_named sinks at then sinks else sinks ++ at ∷ []

-- the place of a sink among those that were named, or behind them all
abbrev pub number_of : List SinkAt → SinkAt → ℕ
number_of [] at = 0
number_of (sink ∷ sinks) at = if eq_sink at sink then 0 else suc (number_of sinks at)

-- the sinks that are named once a path's sinks are
abbrev pub named_after : List SinkAt → List PlacedSink → List SinkAt
named_after named [] = named
named_after named (sink ∷ sinks) = named_after (add_named named sink.at) sinks

abbrev pub numbered_sink : List SinkAt → PlacedSink → SinkNode
numbered_sink named sink =
    record { offset = sink.offset; at = sink.at; count = number_of named sink.at }

-- each sink with its number: that under which it was named first
abbrev pub numbered_sinks : List SinkAt → List PlacedSink → List SinkNode
numbered_sinks named [] = []
numbered_sinks named (sink ∷ sinks) =
    numbered_sink named sink ∷ numbered_sinks (add_named named sink.at) sinks

abbrev pub branch_of : List SinkAt → Path → Branch
branch_of named path = record {
  source = path.source;
  operators = path.operators;
  sinks = numbered_sinks named path.sinks;
}

-- paths in turn, each with its sinks numbered on from those that were named before
abbrev pub numbered_paths : List SinkAt → List Path → List Branch
numbered_paths named [] = []
numbered_paths named (path ∷ paths) =
    branch_of named path ∷ numbered_paths (named_after named path.sinks) paths

-- the paths of a plan: those of its root, each ended by the root's sink
abbrev pub plan_paths : List Node → ℕ → List Path
plan_paths nodes root = map (closed_by at.Ordered) (paths_of nodes root)

-- the branches of a plan
abbrev pub branches : Plan → ℕ → List Branch
branches plan root = numbered_paths [] (plan_paths plan.nodes root)
