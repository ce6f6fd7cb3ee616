use Rattle.std.proofs.Common.{drop}
use Rattle.pipe_lines.proofs.CutSteps.{AreCutting}
use Rattle.pipe_lines.proofs.cutting.cut_legs.Given as goal

abbrev pub invariant-loop-sink_node : goal.invariant-loop-sink_node
invariant-loop-sink_node g l =
    let nodes = l.fn.nodes in
    AreCutting l.fn.operators.items nodes.operators.items nodes.source nodes.scans.items l.fn.sinks.items nodes.sinks.items
    l.first l.start l.taken.items l.left.items l.ends.items (drop l.sink_node-index nodes.sinks.items) l.legs.items
