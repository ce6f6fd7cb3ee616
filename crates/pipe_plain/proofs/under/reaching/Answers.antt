use Rattle.std.proofs.Common.{◌≡◌, ◌∙◌, map}
use Rattle.pipe_plan.specs.Node.{node_of}
use Rattle.pipe_plan.specs.Under.{inputs_of}
use Rattle.pipe_plain.proofs.Walks.{under-more, node-there}
use Rattle.pipe_plain.proofs.under.reaching.Goals as goal

pub loop-k-preserved : goal.loop-k-preserved
loop-k-preserved c =
    let nodes = c.args.nodes.now in
    let x = node_of c.index-nodes-k.result in
    let node = node-there nodes c.loop-k.k c.index-nodes-k.result c.loop-k-test.true c.index-nodes-k.is in
    let below : c.in_ok-below.below ≡ inputs_of x = c.in_ok-below.ensures in
    let made = rw (c.as_slice.ensures.value, c.as_slice-in-loop-k.ensures, below) at c.is_reached.ensures in
    c.in_ok-push.ensures.items ∙ under-more (map node_of nodes) c.args.n c.loop-k.k c.loop-k.marks.items x c.is_reached.result c.loop-k.invariant node made
