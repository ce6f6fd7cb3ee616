use Rattle.std.proofs.Common.{◌≡◌, drop, map}
use Rattle.std.specs.List.{list_any}
use Rattle.pipe_plan.specs.Node.{node_of}
use Rattle.pipe_job.specs.Version.{node_has_int128}
use Rattle.pipe_job.proofs.version.nodes_have_int128.Given as goal

abbrev pub invariant-loop-node : goal.invariant-loop-node
invariant-loop-node l = list_any node_has_int128 (map node_of (drop l.node-index l.nodes)) ≡ list_any node_has_int128 (map node_of l.nodes)
