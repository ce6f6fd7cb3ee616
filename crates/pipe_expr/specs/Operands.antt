-- What a subexpression gives over so many rows.
use Rattle.std.specs.Prelude.{◌≡◌, ℕ, Bool, List, Option, Some, IsTrue, map, length, replicate}
use Rattle.std.specs.Ordering.{nat_cmp}
use Rattle.std.specs.Cmp.Lexicographic.{slice_cmp}
use Rattle.std.specs.declared.cmp.Ordering.{Ordering}
use Rattle.std.specs.Option.{option_copied}
use Rattle.pipe_schema.specs.Cell.{fits_dtype}
use Rattle.pipe_column.specs.Column.{nullable, nullables}
use Rattle.pipe_column.specs.Series.{Cells}
use Rattle.pipe_schema.specs.declared.any_value.AnyValue.{AnyValue}
use Rattle.pipe_schema.specs.declared.data_type.DataType.{DataType}
use Rattle.pipe_expr.specs.Nullables.{zip_with, strictly, tested}
use Rattle.pipe_expr.specs.declared.operand.Operand.{Operand}
use Rattle.pipe_expr.specs.declared.operand.Operand.TheVariants as operand
use Rattle.pipe_expr.specs.declared.byte_strings.ByteStrings.{ByteStrings}
use Rattle.pipe_expr.specs.declared.byte_strings.ByteStrings.TheVariants as strings
use Rattle.pipe_expr.specs.declared.native_operand.NativeOperand.{NativeOperand}
use Rattle.pipe_expr.specs.declared.native_operand.NativeOperand.TheVariants as native

abbrev pub operand_dtype : Operand → DataType
operand_dtype (operand.Lent series) = series.now.dtype
operand_dtype (operand.Owned series) = series.dtype
operand_dtype (operand.Constant dtype cell) = dtype

abbrev pub operand_cells : ℕ → Operand → List AnyValue
operand_cells rows (operand.Lent series) = series.now.cells
operand_cells rows (operand.Owned series) = series.cells
operand_cells rows (operand.Constant dtype cell) = replicate rows cell.now

-- a column has so many cells, and a constant's cell is of its type
abbrev pub IsOperand : ℕ → Operand → Type 0
IsOperand rows (operand.Lent series) = length series.now.cells ≡ rows
IsOperand rows (operand.Owned series) = length series.cells ≡ rows
IsOperand rows (operand.Constant dtype cell) = IsTrue (fits_dtype dtype cell.now)

-- the nullable values of an operand of a fixed-width type
abbrev pub native_values : {T : Type 0} → NativeOperand T → List (Option T)
native_values (native.Column column) = nullables column.validity.now column.values.now
native_values (native.Valid column) = map Some column.values.now
native_values (native.Scalar scalar) = replicate scalar.rows (nullable scalar.valid scalar.value)

abbrev pub zip_native : {T U : Type 0} → (Option T → Option T → Option U) → NativeOperand T → NativeOperand T → List (Option U)
zip_native gives left right = zip_with gives (native_values left) (native_values right)

-- the byte strings of an operand, or the bytes of its texts
abbrev pub byte_strings : ByteStrings → List (Option (List ℕ))
byte_strings (strings.Texts column) = column.now
byte_strings (strings.Bytes column) = column.now
byte_strings (strings.Scalar bytes rows) = replicate rows (option_copied bytes)

-- what a function gives of each cell of an operand
abbrev pub each_row : (AnyValue → AnyValue) → ℕ → Operand → List AnyValue
each_row f rows inner = map f (operand_cells rows inner)

-- a series has what a function gives of the cells of two operands, row by row
abbrev pub IsRowByRow : (AnyValue → AnyValue → AnyValue) → ℕ → Operand → Operand → Cells → Type 0
IsRowByRow f rows left right series = series.cells ≡ zip_with f (operand_cells rows left) (operand_cells rows right)

-- whether byte strings compare so, row by row
abbrev pub compared_strings : (Ordering → Bool) → ByteStrings → ByteStrings → List (Option Bool)
compared_strings test left right = zip_with (strictly (tested (slice_cmp nat_cmp) test)) (byte_strings left) (byte_strings right)

-- cells that a kernel gives of the values in two lists of cells
pub record Zips {A B : Type 0} (of : Option A → AnyValue) (to : Option B → AnyValue) (gives : Option A → Option A → Option B) (left right zipped : List AnyValue) : Type 0 where
  pub a : List (Option A)
  pub b : List (Option A)
  pub is_left : left ≡ map of a
  pub is_right : right ≡ map of b
  pub is_zipped : zipped ≡ map to (zip_with gives a b)

-- a series has what a kernel gives of the values of two operands, row by row
abbrev pub ZipRows : {A B : Type 0} → (Option A → AnyValue) → (Option B → AnyValue) → (Option A → Option A → Option B) → ℕ → Operand → Operand → Cells → Type 0
ZipRows of to gives rows left right series =
    Zips of to gives (operand_cells rows left) (operand_cells rows right) series.cells
