use Rattle.std.proofs.Common.{◌≡◌, map, drop}
use Rattle.std.specs.List.{list_any}
use Rattle.pipe_plan.specs.Node.{node_of}
use Rattle.pipe_plan.specs.Faults.{is_read_below}
use Rattle.pipe_plain.proofs.bad_node.is_any_read.Given as goal

abbrev pub invariant-loop-input : goal.invariant-loop-input
invariant-loop-input l = list_any (is_read_below (map node_of l.arena.nodes) l.root l.n) (drop l.input-index l.numbers) ≡ list_any (is_read_below (map node_of l.arena.nodes) l.root l.n) l.numbers
