use Rattle.std.proofs.Common.{◌≡◌, ◌-◌, map}
use Rattle.std.specs.List.{list_any, range_with_len}
use Rattle.pipe_plan.specs.Node.{node_of}
use Rattle.pipe_plan.specs.Faults.{is_reader, is_read_below}
use Rattle.pipe_plain.proofs.bad_node.is_read.Given as goal

abbrev pub invariant-loop-m : goal.invariant-loop-m
invariant-loop-m l = list_any (is_reader (map node_of l.arena.nodes) l.root l.input) (range_with_len l.m (l.n - l.m)) ≡ is_read_below (map node_of l.arena.nodes) l.root l.n l.input
