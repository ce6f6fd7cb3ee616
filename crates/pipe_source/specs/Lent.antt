-- Columns of a frame that are lent by their names.
use Rattle.std.specs.Borrow.{Bor}
use Rattle.std.specs.Prelude.{◌≡◌, ℕ, ◌≤◌, List, length, map}
use Rattle.std.specs.List.{flat_map, range_with_len}
use Rattle.pipe_column.specs.Columns.{cell_in}
use Rattle.pipe_frame.specs.Frame.{Table}
use Rattle.pipe_schema.specs.Rows.{Row}
use Rattle.pipe_column.specs.Series.{Cells, named_cells}
use Rattle.pipe_schema.specs.declared.any_value.AnyValue.{AnyValue}
use Rattle.pipe_schema.specs.declared.data_type.DataType.{DataType}
use Rattle.pipe_schema.specs.declared.field.Field.{Field}
use Rattle.pipe_expr.specs.Projections.{known_type}
use Rattle.pipe_expr.specs.Types.{type_of_column}
use Rattle.pipe_expr.specs.Values.{named_cell}

-- the cell of a row under a name
abbrev pub cell_under : List Field → List ℕ → Row → AnyValue
cell_under schema name row = named_cell schema row name

-- the column of a name
abbrev pub whole_column : Table → List ℕ → Cells
whole_column frame name =
    named_cells name (known_type (type_of_column name frame.schema)) (map (cell_under frame.schema name) frame.rows)

-- a column that is lent, and its cells
abbrev pub lent : Bor Cells → Cells
lent column = column.now

abbrev pub lent_cells : Bor Cells → List AnyValue
lent_cells column = column.now.cells

-- the cells at a place of some columns
abbrev pub lent_cell : ℕ → Bor Cells → AnyValue
lent_cell i column = cell_in i column.now

abbrev pub lent_row : List (Bor Cells) → ℕ → Row
lent_row columns i = map (lent_cell i) columns

-- the cells of so many rows from a row on, row by row
abbrev pub cells_between : List (Bor Cells) → (from count : ℕ) → List AnyValue
cells_between columns from count = flat_map (lent_row columns) (range_with_len from count)

-- a column has a type, and so many cells or more
abbrev pub HasCells : DataType → ℕ → Bor Cells → Type 0
HasCells dtype count column = (column.now.dtype ≡ dtype) × (count ≤ length column.now.cells)
