use Rattle.std.proofs.Common.{◌≡◌, take}
use Rattle.pipe_column.specs.Columns.{row_at}
use Rattle.pipe_frame.proofs.columns.row_of.Given as goal

abbrev pub invariant-loop-column : goal.invariant-loop-column
invariant-loop-column l = l.row ≡ row_at (take l.column-index l.columns) l.i
