use Rattle.std.proofs.Common.{◌≡◌, ◌++◌, map, take, drop}
use Rattle.pipe_column.specs.Columns.{front_column}
use Rattle.pipe_frame.proofs.columns.truncate_columns.Given as goal

abbrev pub invariant-loop-column : goal.invariant-loop-column
invariant-loop-column l = l.columns ≡ map (front_column l.count) (take l.column-index l.fn.columns) ++ drop l.column-index l.fn.columns
