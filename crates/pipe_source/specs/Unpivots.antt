-- The columns of an unpivot: each row of the frame gives a row for each of some columns.
use Rattle.std.specs.Prelude.{ℕ, List, [], ◌∷◌, ◌++◌, length, map, replicate, slice_index_or}
use Rattle.std.specs.List.{flat_map, range_with_len}
use Rattle.pipe_column.specs.Columns.{row_at}
use Rattle.pipe_frame.specs.Frame.{Table}
use Rattle.pipe_column.specs.Series.{Cells, named_cells}
use Rattle.pipe_schema.specs.declared.any_value.AnyValue.{AnyValue}
use Rattle.pipe_schema.specs.declared.any_value.AnyValue.TheVariants as cell
use Rattle.pipe_schema.specs.declared.data_type.DataType.TheVariants as dtype
use Rattle.pipe_expr.specs.Projections.{known_type, on_type}
use Rattle.pipe_expr.specs.Types.{type_of_column}
use Rattle.pipe_expr.specs.Values.{named_cell}

-- so many numbers from a number on, each so many times
abbrev pub repeated : (times from count : ℕ) → List ℕ
repeated times from count = flat_map (replicate times) (range_with_len from count)

-- the cell of a name, and those of some names for the row at a place
abbrev pub name_cell : List ℕ → AnyValue
name_cell name = cell.String name

abbrev pub name_cells : List (List ℕ) → ℕ → List AnyValue
name_cells names i = map name_cell names

-- the cells of some names, once for each row
abbrev pub repeated_cells : List (List ℕ) → ℕ → List AnyValue
repeated_cells names height = flat_map (name_cells names) (range_with_len 0 height)

-- the cell under a name in the row at a place
abbrev pub cell_named : Table → List ℕ → ℕ → AnyValue
cell_named frame name i = named_cell frame.schema (slice_index_or frame.rows i []) name

-- the column of a name, at some rows
abbrev pub column_at : Table → List ℕ → List ℕ → Cells
column_at frame rows name =
    named_cells name (known_type (type_of_column name frame.schema)) (map (cell_named frame name) rows)

-- the cells of some columns, row by row
abbrev pub flat_cells : List Cells → ℕ → List AnyValue
flat_cells columns height = flat_map (row_at columns) (range_with_len 0 height)

-- the columns of so many rows of a frame from a row on, unpivoted
abbrev pub unpivot_columns : (on index : List (List ℕ)) (variable value : List ℕ) → Table → (from count : ℕ) → List Cells
unpivot_columns on index variable value frame from count =
    map (column_at frame (repeated (length on) from count)) index
    ++ named_cells variable dtype.String (repeated_cells on count)
    ∷ named_cells value (on_type frame.schema on) (flat_cells (map (column_at frame (repeated 1 from count)) on) count)
    ∷ []
