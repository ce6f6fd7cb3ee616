use Rattle.std.proofs.Common.{◌≡◌, ◌++◌, map, length}
use Rattle.pipe_plan.specs.Node.{node_of}
use Rattle.pipe_optimize.specs.Whole.{needs_over}
use Rattle.pipe_optimize.proofs.Alone.{AreNarrowedAlone}
use Rattle.pipe_optimize.proofs.unrenamed.narrow_unrenamed.Given as goal

abbrev pub invariant-loop-node : goal.invariant-loop-node
invariant-loop-node l = record {
  whole : l.yielded ++ l.node-iterator.rest.items ≡ l.initial.node-iterator.rest.items;
  narrowed : AreNarrowedAlone l.frames (map node_of l.initial.node-iterator.rest.items) (needs_over l.lists l.needs) (length l.yielded) (map node_of l.made);
}
