use Rattle.std.proofs.Common.{◌≡◌, ◌++◌, map}
use Rattle.pipe_frame.specs.Queues.{chunk_columns}
use Rattle.pipe_frame.proofs.stacking.queues_of.Given as goal

abbrev pub invariant-loop-chunk : goal.invariant-loop-chunk
invariant-loop-chunk l = l.queues.items ++ map chunk_columns l.chunk-iterator.rest.items ≡ map chunk_columns l.fn.chunks.items
