use Rattle.std.proofs.Common.{◌≡◌, drop, map}
use Rattle.std.specs.List.{list_all}
use Rattle.pipe_plan.specs.Node.{node_of}
use Rattle.pipe_spell.specs.Literals.{node_known}
use Rattle.pipe_spell.proofs.literals.are_nodes_known.Given as goal

abbrev pub invariant-loop-node : goal.invariant-loop-node
invariant-loop-node l = list_all (node_known l.version) (map node_of (drop l.node-index l.nodes)) ≡ list_all (node_known l.version) (map node_of l.nodes)
