use Rattle.std.proofs.Common.{◌≡◌, take, length}
use Rattle.pipe_plan.specs.Node.{node_of}
use Rattle.pipe_optimize.specs.Lists.{names_at}
use Rattle.pipe_optimize.specs.Sides.{need_by}
use Rattle.pipe_optimize.specs.Put.{HasPut}
use Rattle.pipe_optimize.specs.Whole.{needs_over}
use Rattle.pipe_optimize.proofs.trimming.put_needs.Given as goal

abbrev pub invariant-loop-input : goal.invariant-loop-input
invariant-loop-input l = record {
  put : HasPut (need_by (names_at l.lists) (node_of l.node) l.needed) (take l.input-index l.input-items) (needs_over l.lists l.initial.needs) (needs_over l.lists l.needs);
  long : length l.needs ≡ length l.initial.needs;
}
