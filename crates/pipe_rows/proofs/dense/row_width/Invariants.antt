use Rattle.std.proofs.Common.{◌≡◌, ◌+◌, drop}
use Rattle.pipe_rows.specs.Dense.{row_width}
use Rattle.pipe_rows.proofs.dense.row_width.Given as goal

abbrev pub invariant-loop-column : goal.invariant-loop-column
invariant-loop-column l = l.width + row_width (drop l.column-index l.columns) ≡ row_width l.columns
