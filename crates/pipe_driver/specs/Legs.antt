-- Branches leg by leg. A leg begins at a branch's source, or at the sort whose sink the leg before
-- it ends in; it goes through operators into one sink.
--
-- A worked case. Of four nodes, with the source 1, the operator 2, and the sinks Sort 3 and
-- Ordered, both after one operator, the branch begins at 1 and has two legs: operator 2 into the
-- sink of 3, and from there no operator into the root's sink, which goes by 4.
use Rattle.std.specs.Prelude.{ℕ, List, [], ◌∷◌, length, map}
use Rattle.pipe_plan.specs.Plan.{Plan}
use Rattle.pipe_driver.specs.declared.branch.SinkAt.{SinkAt}
use Rattle.pipe_driver.specs.declared.branch.SinkAt.TheVariants as at
use Rattle.pipe_driver.specs.declared.branch.SinkNode.{SinkNode}
use Rattle.pipe_driver.specs.declared.branch.Branch.{Branch}
use Rattle.pipe_driver.specs.Branches.{branches}
use Rattle.pipe_driver.specs.Texts.{between}

-- operators, and the sink behind them with the number by which it goes
pub record Leg : Type 0 where
  pub operators : List ℕ
  pub at : SinkAt
  pub sink : ℕ

-- what is left of a branch: the node where it begins, and legs
pub record Way : Type 0 where
  pub start : ℕ
  pub legs : List Leg

-- the number of a sink: that of its node, and of the root's sink that of all nodes
abbrev pub sink_node : (nodes : ℕ) → SinkAt → ℕ
sink_node nodes at.Ordered = nodes
sink_node nodes (at.Sort n) = n
sink_node nodes (at.Build n) = n

abbrev pub leg_of : ℕ → List ℕ → SinkAt → Leg
leg_of nodes operators at = record {
  operators = operators;
  at = at;
  sink = sink_node nodes at;
}

-- the legs of a branch from so many operators on
abbrev pub legs_from : (nodes : ℕ) → (operators : List ℕ) → (first : ℕ) → List SinkNode → List Leg
legs_from nodes operators first [] = []
legs_from nodes operators first (sink ∷ sinks) =
    leg_of nodes (between operators first sink.offset) sink.at
    ∷ legs_from nodes operators sink.offset sinks

abbrev pub way_of : (nodes : ℕ) → Branch → Way
way_of nodes branch = record {
  start = branch.source;
  legs = legs_from nodes branch.operators 0 branch.sinks;
}

-- the branches of a plan, leg by leg
abbrev pub ways_of : Plan → (root : ℕ) → List Way
ways_of plan root = map (way_of (length plan.nodes)) (branches plan root)
