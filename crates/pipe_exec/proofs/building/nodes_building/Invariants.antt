use Rattle.std.proofs.Common.{◌≡◌, map, take}
use Rattle.pipe_plan.specs.Node.{node_of}
use Rattle.pipe_exec.specs.Sides.{node_building}
use Rattle.pipe_exec.proofs.building.nodes_building.Given as goal

abbrev pub invariant-loop-node : goal.invariant-loop-node
invariant-loop-node l = map node_of l.made ≡ map (node_building l.right) (map node_of (take l.node-index l.nodes))
