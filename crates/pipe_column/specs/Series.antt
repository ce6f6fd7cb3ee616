-- A series: a column of cells with a name and a type.
use Rattle.std.specs.Prelude.{◌≡◌, ℕ, List, Option, Some, None, map, take, drop, slice_index_or}
use Rattle.pipe_schema.specs.Cell.{int32_cell, int64_cell, uint32_cell, uint64_cell, boolean_cell, string_cell, binary_cell, int128_cell}
use Rattle.pipe_schema.specs.declared.any_value.AnyValue.{AnyValue}
use Rattle.pipe_schema.specs.declared.any_value.AnyValue.TheVariants as cell
use Rattle.pipe_schema.specs.declared.data_type.DataType.{DataType}
use Rattle.pipe_schema.specs.declared.data_type.DataType.TheVariants as dtype
use Rattle.pipe_column.specs.declared.values.Values.{Values}
use Rattle.pipe_column.specs.declared.values.Values.TheVariants as values

-- a series as its reader sees it
pub record Cells : Type 0 where
  pub name : List ℕ
  pub dtype : DataType
  pub cells : List AnyValue

-- a series of these cells
abbrev pub named_cells : List ℕ → DataType → List AnyValue → Cells
named_cells name dtype cells = record { name = name; dtype = dtype; cells = cells }

abbrev pub dtype_of_values : Values → DataType
dtype_of_values (values.Int32 _) = dtype.Int32
dtype_of_values (values.Int64 _) = dtype.Int64
dtype_of_values (values.UInt32 _) = dtype.UInt32
dtype_of_values (values.UInt64 _) = dtype.UInt64
dtype_of_values (values.Boolean _) = dtype.Boolean
dtype_of_values (values.String _) = dtype.String
dtype_of_values (values.Binary _) = dtype.Binary
dtype_of_values (values.Int128 _) = dtype.Int128

abbrev pub cells_of : Values → List AnyValue
cells_of (values.Int32 column) = map int32_cell column
cells_of (values.Int64 column) = map int64_cell column
cells_of (values.UInt32 column) = map uint32_cell column
cells_of (values.UInt64 column) = map uint64_cell column
cells_of (values.Boolean column) = map boolean_cell column
cells_of (values.String column) = map string_cell column
cells_of (values.Binary column) = map binary_cell column
cells_of (values.Int128 column) = map int128_cell column

-- the cell at a place
abbrev pub cell_at : List AnyValue → ℕ → AnyValue
cell_at cells i = slice_index_or cells i cell.Null

-- the cells at these places
abbrev pub chosen_cells : List AnyValue → List ℕ → List AnyValue
chosen_cells cells rows = map (cell_at cells) rows

-- so many cells from a place on
abbrev pub part_of : {T : Type 0} → ℕ → ℕ → List T → List T
part_of from count xs = take count (drop from xs)

-- the cell at a place, or null where there is none
abbrev pub cell_or_null : List AnyValue → Option ℕ → AnyValue
cell_or_null cells (Some i) = cell_at cells i
cell_or_null cells None = cell.Null

-- values have the cells that stand at these places of others, null where there is none
abbrev pub TakesCells : List (Option ℕ) → Values → Values → Type 0
TakesCells places of taken = cells_of taken ≡ map (cell_or_null (cells_of of)) places
