use Rattle.std.proofs.Common.{◌∙◌}
use Rattle.pipe_plan.specs.Node.{node_of}
use Rattle.pipe_plan.specs.Plan.{plan_of}
use Rattle.pipe_plain.proofs.Walks.{schemas-more, rows-more, node-there}
use Rattle.pipe_plain.proofs.node_rows.plan_rows.Goals as goal

pub loop-node-preserved : goal.loop-node-preserved
loop-node-preserved c =
    let arena = c.args.arena.now in
    let plan = plan_of arena in
    let k = c.loop-node.node-index in
    let x = node_of c.node-item.result in
    let nodes = c.as_slice-node-items.ensures in
    let within = rw nodes at c.loop-node-test.true in
    let node = node-there arena.nodes k c.node-item.result within (rw nodes at c.node-item.is) in
    let rows = rw (c.as_slice-frames.ensures, c.as_slice.ensures, c.as_slice-in-loop-node.ensures) at c.in_ok-rows.ensures in
    let fields = rw (c.as_slice-frames.ensures, c.as_slice-in-loop-node-2.ensures) at c.in_ok-fields.ensures in
    let so_far = c.loop-node.invariant in
    record {
      schemas = c.in_ok-push-2.ensures.ok ∙ schemas-more plan k c.loop-node.schemas x c.in_ok-fields.fields so_far.schemas node fields;
      tables = c.in_ok-push.ensures.ok ∙ rows-more plan k c.loop-node.schemas c.loop-node.tables x c.in_ok-rows.rows so_far.schemas so_far.tables node rows;
    }
