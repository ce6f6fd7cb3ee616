use Rattle.std.proofs.Common.{◌≡◌, ◌++◌, map, take}
use Rattle.std.specs.List.{flat_map}
use Rattle.pipe_frame.specs.Chunks.{chunk_rows}
use Rattle.pipe_frame.specs.Frame.{cell_of_row}
use Rattle.pipe_frame.proofs.stacking.append_cells.Given as goal

abbrev pub invariant-loop-chunk : goal.invariant-loop-chunk
invariant-loop-chunk l = l.column ≡ record l.fn.column { cells = l.fn.column.cells ++ map (cell_of_row l.k) (flat_map chunk_rows (take l.chunk-index l.chunks)) }
