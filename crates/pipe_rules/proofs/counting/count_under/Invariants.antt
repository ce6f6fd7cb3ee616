use Rattle.std.proofs.Common.{◌≡◌, ◌≤◌, map}
use Rattle.pipe_plan.specs.Node.{node_of}
use Rattle.pipe_rules.specs.Sizes.{under_to}
use Rattle.pipe_rules.proofs.counting.count_under.Given as goal

abbrev pub invariant-loop-is_under : goal.invariant-loop-is_under
invariant-loop-is_under l =
    (l.count ≡ under_to (map node_of l.nodes) l.root l.is_under-index) × (l.count ≤ l.is_under-index)
