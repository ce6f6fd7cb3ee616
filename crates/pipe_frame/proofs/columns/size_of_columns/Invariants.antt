use Rattle.std.proofs.Common.{◌≡◌, take}
use Rattle.std.specs.Prelude.{sum_by}
use Rattle.pipe_column.specs.Sizes.{column_size}
use Rattle.pipe_frame.proofs.columns.size_of_columns.Given as goal

abbrev pub invariant-loop-column : goal.invariant-loop-column
invariant-loop-column l = l.size ≡ sum_by column_size (take l.column-index l.columns)
