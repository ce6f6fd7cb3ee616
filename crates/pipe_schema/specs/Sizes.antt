-- The sizes that cells and rows are estimated at, in bytes.
use Rattle.std.specs.Prelude.{ℕ, ◌+◌, List, ◌∷◌, length}
use Rattle.pipe_schema.specs.Rows.{Row}
use Rattle.pipe_schema.specs.declared.any_value.AnyValue.{AnyValue}
use Rattle.pipe_schema.specs.declared.any_value.AnyValue.TheVariants as cell
use Rattle.pipe_schema.specs.declared.data_type.DataType.{DataType}
use Rattle.pipe_schema.specs.declared.data_type.DataType.TheVariants as dtype
use Rattle.pipe_schema.specs.declared.field.Field.{Field}

-- what each cell of a type counts, null or not
abbrev pub width_of : DataType → ℕ
width_of dtype.Int32 = 4
width_of dtype.Int64 = 8
width_of dtype.UInt32 = 4
width_of dtype.UInt64 = 8
width_of dtype.Boolean = 1
width_of dtype.String = 8
width_of dtype.Binary = 8
width_of dtype.Int128 = 16

-- the length of a text or of bytes
abbrev pub length_of : AnyValue → ℕ
length_of (cell.String text) = length text
length_of (cell.Binary bytes) = length bytes
length_of cell.Null = 0
length_of (cell.Int32 _) = 0
length_of (cell.Int64 _) = 0
length_of (cell.UInt32 _) = 0
length_of (cell.UInt64 _) = 0
length_of (cell.Boolean _) = 0
length_of (cell.Int128 _) = 0

abbrev pub cell_size : DataType → AnyValue → ℕ
cell_size dtype value = width_of dtype + length_of value

abbrev pub row_size : List Field → Row → ℕ
row_size (field ∷ fields) (value ∷ row) = cell_size field.dtype value + row_size fields row
row_size _ _ = 0
