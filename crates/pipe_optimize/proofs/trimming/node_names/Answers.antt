use Rattle.std.proofs.Common.{map, refl, arith}
use Rattle.pipe_plan.specs.Node.{node_of}
use Rattle.pipe_optimize.specs.Lists.{names_at}
use Rattle.pipe_optimize.specs.Sides.{output_by}
use Rattle.pipe_optimize.proofs.Passing.{names-begun, names-step, names-all}
use Rattle.pipe_optimize.proofs.trimming.node_names.Goals as goal

pub loop-node-init : goal.loop-node-init
loop-node-init c = names-begun c.args.frames.now (map node_of c.args.nodes.now) c.new-lists.result c.new-lists.ensures

pub loop-node-preserved : goal.loop-node-preserved
loop-node-preserved c =
    let made = output_by c.args.frames.now (names_at c.loop-node.lists) (node_of c.node-item.result) in
    names-step c.args.frames.now c.args.nodes.now c.requires c.loop-node.node-index c.loop-node.lists c.loop-node.lists c.push_names.new.lists c.node-item.result made c.loop-node-test.true c.node-item.is c.loop-node.invariant refl refl c.in_ok-push_names.ensures

pub returns : goal.returns
returns c = names-all c.args.frames.now c.args.nodes.now c.loop-node.node-index c.loop-node.lists c.loop-node.invariant (omega (arith, c.loop-node-test.false))
