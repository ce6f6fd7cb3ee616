use Rattle.std.proofs.Common.{◌≡◌, ◌++◌, map, length}
use Rattle.pipe_plan.specs.Node.{node_of}
use Rattle.pipe_optimize.specs.Put.{AreNarrowedTo, needs_in}
use Rattle.pipe_optimize.specs.Whole.{needs_over}
use Rattle.pipe_optimize.proofs.trimming.narrow_over_names.Given as goal

abbrev pub invariant-loop-node : goal.invariant-loop-node
invariant-loop-node l = record {
  whole : l.yielded ++ l.node-iterator.rest.items ≡ l.initial.node-iterator.rest.items;
  narrowed : AreNarrowedTo l.frames (map node_of l.initial.node-iterator.rest.items) (needs_in (needs_over l.lists l.needs)) (length l.yielded) (map node_of l.made) l.left;
}
