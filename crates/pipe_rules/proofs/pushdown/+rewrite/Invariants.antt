use Rattle.std.proofs.Common.{◌≡◌, ◌+◌, ◌*◌, true, take, map}
use Rattle.pipe_plan.specs.Node.{node_of}
use Rattle.pipe_plan.specs.Plan.{plan_of}
use Rattle.pipe_plan.specs.Under.{inputs_of}
use Rattle.pipe_plan.specs.Schemas.{schema_of}
use Rattle.pipe_rules.specs.Placed.{first_input}
use Rattle.pipe_rules.specs.Parted.{is_join}
use Rattle.pipe_rules.specs.Reach.{AreOver}
use Rattle.pipe_rules.specs.Values.{parts_in}
use Rattle.pipe_rules.specs.Grown.{AreRewritten}
use Rattle.pipe_rules.proofs.Taken.{Serves}
use Rattle.pipe_rules.proofs.pushdown.+rewrite.Given as goal

abbrev pub decreases-rewrite : goal.decreases-rewrite
decreases-rewrite l = 3 * l.n + 2

abbrev pub decreases-rewrite_node : goal.decreases-rewrite_node
decreases-rewrite_node l = 3 * l.n + 1

abbrev pub decreases-rewrite_inputs : goal.decreases-rewrite_inputs
decreases-rewrite_inputs l = 3 * l.n

abbrev pub invariant-rewrite_inputs-loop-input : goal.invariant-rewrite_inputs-loop-input
invariant-rewrite_inputs-loop-input l = record {
  done : AreRewritten (plan_of l.plan.arena) (map node_of l.initial.nodes) (map node_of l.nodes) (node_of l.node) (parts_in l.initial.parts) (take l.input-index l.inputs) l.numbers;
  serves : Serves (node_of l.node) l.inputs l.input-index (parts_in l.initial.parts) (parts_in l.parts);
  above : l.parts.above ≡ l.initial.parts.above;
  over : is_join (node_of l.node) ≡ true → AreOver (schema_of (plan_of l.plan.arena) (first_input (inputs_of (node_of l.node)))) l.parts.left;
}
