use Rattle.std.proofs.Common.{◌≡◌, ◌≤◌, map, length}
use Rattle.pipe_plan.specs.Node.{node_of}
use Rattle.pipe_optimize.specs.Put.{ArePassed}
use Rattle.pipe_optimize.specs.Whole.{needs_over}
use Rattle.pipe_optimize.proofs.trimming.pass_needs.Given as goal

abbrev pub invariant-loop-n : goal.invariant-loop-n
invariant-loop-n l = record {
  within : l.n ≤ length l.nodes;
  long : length l.needs ≡ length l.nodes;
  passed : ArePassed l.lists (map node_of l.nodes) l.root l.n (needs_over l.lists l.needs);
}

abbrev pub decreases-loop-n : goal.decreases-loop-n
decreases-loop-n l = l.n
