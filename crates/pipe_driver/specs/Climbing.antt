-- What a path becomes above a node, while a plan is cut from its root downwards. The steps above a
-- node, the nearest first, are what its readers do with a path: so the branches come one by one, each
-- from its source on, and nothing is done twice.
use Rattle.std.specs.Prelude.{◌≡◌, ℕ, ◌+◌, ◌*◌, ◌^◌, ◌<◌, List, [], ◌∷◌, ◌++◌, Bool, true, false, ◌&&◌, if◌then◌else◌, length, map, drop, nat_lt, Option, Some, None, slice_index_or}
use Rattle.std.specs.List.{list_all}
use Rattle.pipe_plan.specs.Walk.{walk}
use Rattle.pipe_plan.specs.Node.{Node}
use Rattle.pipe_plan.specs.Node as node
use Rattle.pipe_plan.specs.declared.ir.JoinOptions.{JoinOptions}
use Rattle.pipe_plan.specs.Under.{inputs_of, node_at}
use Rattle.pipe_driver.specs.Branches.{PlacedSink, Path, put_operator, put_sink, placed, numbered_sink, is_named, number_of, add_named, named_after, branch_of, built_side, probed_side}
use Rattle.pipe_driver.specs.declared.turn.Turn.{Turn}
use Rattle.pipe_driver.specs.declared.turn.Turn.TheVariants as turn
use Rattle.pipe_driver.specs.declared.above.Step.{Step}
use Rattle.pipe_driver.specs.declared.above.Step.TheVariants as step
use Rattle.pipe_driver.specs.declared.branch.SinkAt.{SinkAt}
use Rattle.pipe_driver.specs.declared.branch.SinkAt.TheVariants as at
use Rattle.pipe_driver.specs.declared.branch.SinkNode.{SinkNode}
use Rattle.pipe_driver.specs.declared.branch.Branch.{Branch}

-- the step at a place, counted from the nearest
abbrev pub step_at : List Step → ℕ → Step
step_at steps k = slice_index_or steps k (step.Operator 0)

-- what an open path becomes above
abbrev pub climbed : List Step → Path → Path
climbed [] path = put_sink false at.Ordered path
climbed (step.Operator n ∷ steps) path = climbed steps (put_operator n path)
climbed (step.Sort n is_passed ∷ steps) path =
    if is_passed then put_sink false (at.Sort n) path
    else climbed steps (put_sink true (at.Sort n) path)
climbed (step.Build n ∷ steps) path = put_sink false (at.Build n) path

-- the steps above once an open path went up: it passed each sort that it came to
abbrev pub passed : List Step → List Step
passed [] = []
passed (step.Operator n ∷ steps) = step.Operator n ∷ passed steps
passed (step.Sort n is_passed ∷ steps) =
    step.Sort n true ∷ (if is_passed then steps else passed steps)
passed (step.Build n ∷ steps) = step.Build n ∷ steps

-- the sinks that have numbers, and how many nodes there are
pub record Named : Type 0 where
  pub sinks : List SinkAt
  pub nodes : ℕ

abbrev pub name_all : Named → List PlacedSink → Named
name_all named sinks = record named { sinks = named_after named.sinks sinks }

-- how far a plan is cut: what stands above, the sinks that were named, and the branches so far
pub record Cutting : Type 0 where
  pub above : List Step
  pub named : Named
  pub branches : List Branch

-- nothing is cut of a plan of so many nodes
abbrev pub start_of : ℕ → Cutting
start_of nodes = record {
  above = [];
  named = record { sinks = []; nodes = nodes };
  branches = [];
}

-- one more branch
abbrev pub add_path : Cutting → Path → Cutting
add_path cutting path = record cutting {
  named = name_all cutting.named path.sinks;
  branches = cutting.branches ++ branch_of cutting.named.sinks path ∷ [];
}

-- an open path goes up, and is then a branch; a closed one is a branch
abbrev pub take_path : Cutting → Path → Cutting
take_path cutting path =
    if path.is_open then
    add_path (record cutting { above = passed cutting.above }) (climbed cutting.above path)
    else add_path cutting path

abbrev pub take_paths : Cutting → List Path → Cutting
take_paths cutting [] = cutting
take_paths cutting (path ∷ paths) = take_paths (take_path cutting path) paths

-- one more step above
abbrev pub put_step : Step → Cutting → Cutting
put_step step cutting = record cutting { above = step ∷ cutting.above }

-- a branch without the numbers of its sinks, as an open path
abbrev pub unnumbered : SinkNode → PlacedSink
unnumbered sink = placed sink.offset sink.at

abbrev pub open_path : Branch → Path
open_path branch = record {
  source = branch.source;
  operators = branch.operators;
  sinks = map unnumbered branch.sinks;
  is_open = true;
}

-- a branch with one more sink, which gets its number
abbrev pub put_numbered : List SinkAt → SinkAt → Branch → Branch
put_numbered named at branch = record branch {
  sinks = branch.sinks ++ numbered_sink named (placed (length branch.operators) at) ∷ [];
}

-- ---- the table of numbers

-- where a sink has its number in the table
abbrev pub slot_of : SinkAt → ℕ
slot_of at.Ordered = 0
slot_of (at.Sort n) = 2 * n + 1
slot_of (at.Build n) = 2 * n + 2

abbrev pub is_sink_in : ℕ → SinkAt → Bool
is_sink_in nodes at.Ordered = true
is_sink_in nodes (at.Sort n) = nat_lt n nodes
is_sink_in nodes (at.Build n) = nat_lt n nodes

-- the number of a sink that was named
abbrev pub number_in : List SinkAt → SinkAt → Option ℕ
number_in sinks at = if is_named sinks at then Some (number_of sinks at) else None

abbrev pub AreNumbers : List SinkAt → List (Option ℕ) → Type 0
AreNumbers sinks numbers =
    (at : SinkAt) → slice_index_or numbers (slot_of at) None ≡ number_in sinks at

abbrev pub add_name : Named → SinkAt → Named
add_name named at = record named { sinks = add_named named.sinks at }

-- ---- what the way down needs

-- a node reads smaller nodes alone, and so do they
abbrev pub goes_down_at : List Node → (ℕ → Bool) → ℕ → Bool
goes_down_at nodes below n = list_all below (inputs_of (node_at nodes n))

abbrev pub goes_down : List Node → ℕ → Bool
goes_down nodes n = walk false (goes_down_at nodes) (length nodes) n

-- whether a number is below n, and its node reads smaller nodes alone, all the way down
abbrev pub is_down : List Node → ℕ → ℕ → Bool
is_down nodes n input = nat_lt input n && goes_down nodes input

abbrev pub is_step_in : ℕ → Step → Bool
is_step_in nodes (step.Operator n) = true
is_step_in nodes (step.Sort n is_passed) = nat_lt n nodes
is_step_in nodes (step.Build n) = nat_lt n nodes

-- the sinks above have room in the table, and there are as many nodes as steps above and below
pub record HasRoom (cutting : Cutting) (n : ℕ) : Type 0 where
  pub few : cutting.named.nodes < 2 ^ 32
  pub height : length cutting.above + n < cutting.named.nodes
  pub steps : list_all (is_step_in cutting.named.nodes) cutting.above ≡ true

-- the nearest step taken away
abbrev pub drop_step : Cutting → Cutting
drop_step cutting = record cutting { above = drop 1 cutting.above }

-- ---- what is done at a node

abbrev pub join_turn : ℕ → ℕ → JoinOptions → Turn
join_turn left right options =
    turn.Join (built_side left right options) (probed_side left right options)

abbrev pub turn_at : Node → Turn
turn_at (node.DataFrameScan frame columns) = turn.Begin
turn_at (node.Filter input predicate) = turn.Through input
turn_at (node.SimpleProjection input columns) = turn.Through input
turn_at (node.Select input exprs) = turn.Through input
turn_at (node.HStack input exprs) = turn.Through input
turn_at (node.MapFunction input function) = turn.Through input
turn_at (node.Union inputs) = turn.Unite
turn_at (node.Join left right left_on right_on options) = join_turn left right options
turn_at (node.Sort input by options) = turn.Sort input
