use Rattle.std.proofs.Common.{◌≡◌, ◌++◌, map, drop}
use Rattle.pipe_lines.specs.Parts.{node_of_sink}
use Rattle.pipe_lines.proofs.pipe_nodes.sink_nodes.Given as goal

abbrev pub invariant-loop-sink : goal.invariant-loop-sink
invariant-loop-sink l = l.nodes.items ++ map node_of_sink (drop l.sink-index l.sinks) ≡ map node_of_sink l.sinks
