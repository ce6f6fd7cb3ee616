use Rattle.std.proofs.Common.{◌∙◌}
use Rattle.pipe_plan.specs.Node.{node_of}
use Rattle.pipe_plan.specs.Plan.{plan_of}
use Rattle.pipe_plain.proofs.Walks.{schemas-more, node-there}
use Rattle.pipe_plain.proofs.node_schemas.plan_schemas.Goals as goal

pub loop-node-preserved : goal.loop-node-preserved
loop-node-preserved c =
    let arena = c.args.arena.now in
    let nodes = c.as_slice-node-items.ensures in
    let within = rw nodes at c.loop-node-test.true in
    let node = node-there arena.nodes c.loop-node.node-index c.node-item.result within (rw nodes at c.node-item.is) in
    let made = rw (c.as_slice-frames.ensures, c.as_slice.ensures) at c.in_ok-made.ensures in
    c.in_ok-push.ensures.ok ∙ schemas-more (plan_of arena) c.loop-node.node-index c.loop-node.schemas (node_of c.node-item.result) c.in_ok-made.made c.loop-node.invariant node made
