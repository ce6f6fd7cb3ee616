use Rattle.std.proofs.Common.{◌≡◌, length, take}
use Rattle.std.specs.Prelude.{All}
use Rattle.std.specs.List.{flat_map}
use Rattle.pipe_frame.specs.Chunks.{chunk_rows}
use Rattle.pipe_schema.specs.Rows.{HasWidth}
use Rattle.pipe_frame.proofs.stacking.height_of_all.Given as goal

abbrev pub invariant-loop-chunk : goal.invariant-loop-chunk
invariant-loop-chunk l =
    record {
      height : l.height ≡ length (flat_map chunk_rows (take l.chunk-index l.chunks));
      whole : All (HasWidth (length l.schema)) (flat_map chunk_rows (take l.chunk-index l.chunks));
    }
