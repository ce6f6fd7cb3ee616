use Rattle.std.proofs.Common.{map}
use Rattle.pipe_plan.specs.Node.{node_of}
use Rattle.pipe_optimize.specs.Lists.{AreNames}
use Rattle.pipe_optimize.proofs.trimming.node_names.Given as goal

abbrev pub invariant-loop-node : goal.invariant-loop-node
invariant-loop-node l = AreNames l.frames (map node_of l.nodes) l.node-index l.lists
