-- The sizes that columns are estimated at, in bytes: the sum over their cells.
use Rattle.std.specs.Prelude.{ℕ, List, Option, Some, None, length, sum_by}
use Rattle.pipe_column.specs.Series.{Cells}
use Rattle.pipe_schema.specs.Sizes.{cell_size}

-- the size of a column
abbrev pub column_size : Cells → ℕ
column_size column = sum_by (cell_size column.dtype) column.cells

-- the length of a nullable byte string
abbrev pub nullable_length : Option (List ℕ) → ℕ
nullable_length (Some bytes) = length bytes
nullable_length None = 0
