use Rattle.std.proofs.Common.{◌≡◌, map, drop}
use Rattle.std.specs.List.{list_any}
use Rattle.pipe_plan.specs.Node.{node_of}
use Rattle.pipe_optimize.specs.Narrow.{is_renaming}
use Rattle.pipe_optimize.proofs.unrenamed.has_renaming.Given as goal

abbrev pub invariant-loop-node : goal.invariant-loop-node
invariant-loop-node l = list_any is_renaming (map node_of (drop l.node-index l.nodes)) ≡ list_any is_renaming (map node_of l.nodes)
