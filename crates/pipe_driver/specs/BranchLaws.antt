-- What whoever runs the branches of a plan needs of them, as statements.
use Rattle.std.specs.Prelude.{◌≡◌, ℕ, ◌<◌, List, [], ◌∷◌, Bool, true, false, not, ◌==◌, ◌||◌, ◌&&◌, ◌++◌, if◌then◌else◌, length, map, drop}
use Rattle.std.specs.List.{list_any, list_all, flat_map}
use Rattle.pipe_plan.specs.Node.{Node}
use Rattle.pipe_plan.specs.Node as node
use Rattle.pipe_plan.specs.Plan.{Plan}
use Rattle.pipe_plan.specs.Under.{inputs_of, node_at, is_under}
use Rattle.pipe_plan.specs.Faults.{IsWellFormed}
use Rattle.pipe_driver.specs.declared.branch.SinkAt.{SinkAt}
use Rattle.pipe_driver.specs.declared.branch.SinkAt.TheVariants as at
use Rattle.pipe_driver.specs.declared.branch.SinkNode.{SinkNode}
use Rattle.pipe_driver.specs.declared.branch.Branch.{Branch}
use Rattle.pipe_driver.specs.Branches.{is_ordered, is_sort, is_build, add_named, number_of, branches, built_side, probed_side}
use Rattle.pipe_driver.specs.Texts.{between}

-- ---- each node is on a branch

abbrev pub is_at_node : ℕ → SinkAt → Bool
is_at_node n at = is_sort n at || is_build n at

abbrev pub is_sink_at_node : ℕ → SinkNode → Bool
is_sink_at_node n sink = is_at_node n sink.at

abbrev pub is_number : ℕ → ℕ → Bool
is_number n m = m == n

-- a node is a branch's source, a scan that its source reads, one of its operators, or has one of its
-- sinks
abbrev pub is_on : List Node → ℕ → Branch → Bool
is_on nodes n branch =
    (branch.source == n) || list_any (is_number n) (inputs_of (node_at nodes branch.source))
    || list_any (is_number n) branch.operators || list_any (is_sink_at_node n) branch.sinks

-- each node under the root of a well-formed plan is on a branch, or has a sink of one
abbrev pub EveryNodeIsOnABranch : Type 0
EveryNodeIsOnABranch =
    (plan : Plan) (root n : ℕ) → IsWellFormed plan root → is_under plan.nodes root n ≡ true
    → list_any (is_on plan.nodes n) (branches plan root) ≡ true

-- ---- the root's sink

abbrev pub is_root_sink : SinkNode → Bool
is_root_sink sink = is_ordered sink.at

abbrev pub ends_in_root_sink : List SinkNode → Bool
ends_in_root_sink [] = false
ends_in_root_sink (sink ∷ []) = is_root_sink sink
ends_in_root_sink (sink ∷ next ∷ sinks) = ends_in_root_sink (next ∷ sinks)

abbrev pub ends_at_root : Branch → Bool
ends_at_root branch = ends_in_root_sink branch.sinks

-- some branch of a well-formed plan ends in the root's sink
abbrev pub SomeBranchEndsAtTheRoot : Type 0
SomeBranchEndsAtTheRoot =
    (plan : Plan) (root : ℕ) → IsWellFormed plan root
    → list_any ends_at_root (branches plan root) ≡ true

-- ---- numbers of sinks

abbrev pub sinks_of : Branch → List SinkNode
sinks_of branch = branch.sinks

-- the sinks of a plan, in the order in which its branches, in turn and each from its source on, name
-- them
abbrev pub all_sinks : Plan → ℕ → List SinkNode
all_sinks plan root = flat_map sinks_of (branches plan root)

-- the different ones among them, in the order in which they are named first
abbrev pub first_named : List SinkAt → List SinkNode → List SinkAt
first_named named [] = named
first_named named (sink ∷ sinks) = first_named (add_named named sink.at) sinks

-- each sink has its place among the different ones as its number
abbrev pub AreNumberedBy : List SinkAt → List SinkNode → Type 0
AreNumberedBy named [] = Unit {0}
AreNumberedBy named (sink ∷ sinks) =
    (sink.count ≡ number_of named sink.at) × (sink.count < length named)
    × AreNumberedBy named sinks

-- the sinks of a plan are numbered in the order in which they are named first
abbrev pub SinksAreNumberedAsNamed : Type 0
SinksAreNumberedAsNamed =
    (plan : Plan) (root : ℕ)
    → AreNumberedBy (first_named [] (all_sinks plan root)) (all_sinks plan root)

-- ---- the side of a join that is built comes first

-- whether a branch's rows probe a join, and whether they come to its build sink
abbrev pub probes : ℕ → Branch → Bool
probes n branch = list_any (is_number n) branch.operators

abbrev pub is_build_of : ℕ → SinkNode → Bool
is_build_of n sink = is_build n sink.at

abbrev pub feeds : ℕ → Branch → Bool
feeds n branch = list_any (is_build_of n) branch.sinks

-- from the first branch on that probes a join, none feeds its build sink
abbrev pub builds_first : ℕ → List Branch → Bool
builds_first n [] = true
builds_first n (branch ∷ branches) =
    if probes n branch then not (list_any (feeds n) (branch ∷ branches))
    else builds_first n branches

-- each branch that feeds a join's build sink stands before the first one that probes the join
abbrev pub EveryBuildComesFirst : Type 0
EveryBuildComesFirst =
    (plan : Plan) (root n : ℕ) → IsWellFormed plan root
    → builds_first n (branches plan root) ≡ true

-- ---- a branch is a chain of readers

-- what a branch's rows come to: an operator, or a sink
pub data Stop : Type 0 where
  Operator : (n : ℕ) → Stop
  Sink : (sink : SinkAt) → Stop

-- a branch's stops from so many operators on: each sink behind the operators that stand before it
abbrev pub stops_from : List ℕ → ℕ → List SinkNode → List Stop
stops_from operators first [] = map Operator (drop first operators)
stops_from operators first (sink ∷ sinks) =
    map Operator (between operators first sink.offset)
    ++ Sink sink.at ∷ stops_from operators sink.offset sinks

-- the inputs whose rows go through a node: of a join those of the side that probes
abbrev pub through_inputs : Node → List ℕ
through_inputs (node.DataFrameScan frame columns) = []
through_inputs (node.Filter input predicate) = input ∷ []
through_inputs (node.SimpleProjection input columns) = input ∷ []
through_inputs (node.Select input exprs) = input ∷ []
through_inputs (node.HStack input exprs) = input ∷ []
through_inputs (node.MapFunction input function) = input ∷ []
through_inputs (node.Union inputs) = inputs
through_inputs (node.Join left right left_on right_on options) =
    probed_side left right options ∷ []
through_inputs (node.Sort input by options) = input ∷ []

-- the side of a join that is built
abbrev pub built_inputs : Node → List ℕ
built_inputs (node.DataFrameScan frame columns) = []
built_inputs (node.Filter input predicate) = []
built_inputs (node.SimpleProjection input columns) = []
built_inputs (node.Select input exprs) = []
built_inputs (node.HStack input exprs) = []
built_inputs (node.MapFunction input function) = []
built_inputs (node.Union inputs) = []
built_inputs (node.Join left right left_on right_on options) =
    built_side left right options ∷ []
built_inputs (node.Sort input by options) = []

-- whether a stop reads node n: the root's sink reads the root
abbrev pub reads : List Node → ℕ → ℕ → Stop → Bool
reads nodes root n (Operator m) = list_any (is_number n) (through_inputs (node_at nodes m))
reads nodes root n (Sink at.Ordered) = root == n
reads nodes root n (Sink (at.Sort m)) = list_any (is_number n) (through_inputs (node_at nodes m))
reads nodes root n (Sink (at.Build m)) = list_any (is_number n) (built_inputs (node_at nodes m))

-- the node whose rows are there behind a stop
abbrev pub node_behind : ℕ → Stop → ℕ
node_behind n (Operator m) = m
node_behind n (Sink at.Ordered) = n
node_behind n (Sink (at.Sort m)) = m
node_behind n (Sink (at.Build m)) = m

-- each stop reads the node before it
abbrev pub is_chain : List Node → ℕ → ℕ → List Stop → Bool
is_chain nodes root n [] = true
is_chain nodes root n (stop ∷ stops) =
    reads nodes root n stop && is_chain nodes root (node_behind n stop) stops

abbrev pub is_chained : List Node → ℕ → Branch → Bool
is_chained nodes root branch =
    is_chain nodes root branch.source (stops_from branch.operators 0 branch.sinks)

-- the operators and sinks of each branch are the chain of what reads its source, and so on upwards
abbrev pub EveryBranchIsAChain : Type 0
EveryBranchIsAChain =
    (plan : Plan) (root : ℕ) → IsWellFormed plan root
    → list_all (is_chained plan.nodes root) (branches plan root) ≡ true
