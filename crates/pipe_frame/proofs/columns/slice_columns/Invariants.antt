use Rattle.std.proofs.Common.{◌≡◌, map, take}
use Rattle.pipe_column.specs.Columns.{part_column}
use Rattle.pipe_frame.proofs.columns.slice_columns.Given as goal

abbrev pub invariant-loop-column : goal.invariant-loop-column
invariant-loop-column l = l.parts.items ≡ map (part_column l.from l.count) (take l.column-index l.columns)
