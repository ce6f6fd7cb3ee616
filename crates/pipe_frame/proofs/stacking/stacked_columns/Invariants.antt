use Rattle.std.proofs.Common.{◌≡◌, map, take}
use Rattle.pipe_frame.specs.Chunks.{chunks_table}
use Rattle.pipe_frame.specs.Frame.{columns_of}
use Rattle.pipe_frame.specs.Queues.{columns_left}
use Rattle.pipe_frame.proofs.stacking.stacked_columns.Given as goal

abbrev pub invariant-loop-k : goal.invariant-loop-k
invariant-loop-k l =
    record {
      made : l.columns.items ≡ take l.k (columns_of (chunks_table l.schema l.fn.chunks.items));
      left : l.queues.items ≡ map (columns_left l.k) l.fn.chunks.items;
    }
