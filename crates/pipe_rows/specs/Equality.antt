-- The equality encoding: rows as bytes that are equal exactly where the rows are equal, null with null.
use Rattle.std.specs.Prelude.{ℕ, List, [], ◌∷◌, ◌++◌, Bool, false, ◌||◌, IsTrue, length, map}
use Rattle.std.specs.Int.{w64, to_le_bytes}
use Rattle.std.specs.List.{flat_map}
use Rattle.pipe_schema.specs.Cell.{fits_dtype, is_null_cell}
use Rattle.pipe_column.specs.Native.{InRange, little_endian}
use Rattle.pipe_schema.specs.Rows.{Row}
use Rattle.pipe_column.specs.Series.{Cells}
use Rattle.pipe_schema.specs.declared.any_value.AnyValue.{AnyValue}
use Rattle.pipe_schema.specs.declared.any_value.AnyValue.TheVariants as cell
use Rattle.pipe_schema.specs.declared.data_type.DataType.{DataType}

-- a text or a byte string: its length in eight bytes, lowest first, and then its bytes
abbrev pub sized_bytes : List ℕ → List ℕ
sized_bytes bytes = to_le_bytes w64 (length bytes) ++ bytes

-- a cell: 0 for null, else 1 and the value, numbers lowest byte first and signed ones in two's complement
abbrev pub equality_cell : AnyValue → List ℕ
equality_cell cell.Null = 0 ∷ []
equality_cell (cell.Int32 x) = 1 ∷ little_endian (cell.Int32 x)
equality_cell (cell.Int64 x) = 1 ∷ little_endian (cell.Int64 x)
equality_cell (cell.UInt32 x) = 1 ∷ little_endian (cell.UInt32 x)
equality_cell (cell.UInt64 x) = 1 ∷ little_endian (cell.UInt64 x)
equality_cell (cell.Boolean b) = 1 ∷ little_endian (cell.Boolean b)
equality_cell (cell.String text) = 1 ∷ sized_bytes text
equality_cell (cell.Binary bytes) = 1 ∷ sized_bytes bytes
equality_cell (cell.Int128 x) = 1 ∷ little_endian (cell.Int128 x)

-- a row: its cells in order
abbrev pub equality_row : Row → List ℕ
equality_row row = flat_map equality_cell row

-- whether a cell of the row is null
abbrev pub has_null_cell : Row → Bool
has_null_cell [] = false
has_null_cell (x ∷ row) = is_null_cell x || has_null_cell row

-- a cell is one of a column of a type: null, or of the type and within its range
abbrev pub IsCell : DataType → AnyValue → Type 0
IsCell dtype x = IsTrue (fits_dtype dtype x) × InRange x

-- a row has one cell of each of these types
abbrev pub IsRow : List DataType → Row → Type 0
IsRow [] [] = Unit {0}
IsRow (dtype ∷ dtypes) (x ∷ row) = IsCell dtype x × IsRow dtypes row
IsRow _ _ = ⊥

abbrev pub dtype_of : Cells → DataType
dtype_of column = column.dtype

-- the types of some columns
abbrev pub dtypes_of : List Cells → List DataType
dtypes_of columns = map dtype_of columns
