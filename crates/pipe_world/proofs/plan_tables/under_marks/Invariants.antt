use Rattle.std.proofs.Common.{◌≡◌, map}
use Rattle.std.specs.List.{range_with_len}
use Rattle.pipe_plan.specs.Node.{node_of}
use Rattle.pipe_plan.specs.Under.{is_under}
use Rattle.pipe_world.proofs.plan_tables.under_marks.Given as goal

abbrev pub invariant-loop-n : goal.invariant-loop-n
invariant-loop-n l = l.marks ≡ map (is_under (map node_of l.nodes) l.root) (range_with_len 0 l.n)
