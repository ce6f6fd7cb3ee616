-- Decoding: which byte strings are ordered encodings, and of which cells.
use Rattle.std.specs.Prelude.{◌≡◌, ℕ, ◌<◌, ◌≤◌, List, [], ◌∷◌, ◌++◌, Bool, false, Option, Some, None, IsUtf8, length, drop, map}
use Rattle.std.specs.Option.{MatchOption}
use Rattle.std.specs.declared.vec.Vec.{Vec}
use Rattle.std.specs.declared.alloc.Global.{Global}
use Rattle.pipe_schema.specs.Cell.{is_null_cell}
use Rattle.pipe_column.specs.Columns.{AllOfHeight, field_of, row_at}
use Rattle.pipe_column.specs.Native.{InRange, ordered_bytes}
use Rattle.pipe_column.specs.Series.{Cells}
use Rattle.pipe_schema.specs.declared.field.Field.{Field}
use Rattle.pipe_rows.specs.declared.error.RowsError.{RowsError}
use Rattle.pipe_rows.specs.declared.error.RowsError.TheVariants as fault
use Rattle.pipe_schema.specs.Rows.{Row}
use Rattle.pipe_schema.specs.declared.any_value.AnyValue.{AnyValue}
use Rattle.pipe_schema.specs.declared.any_value.AnyValue.TheVariants as cell
use Rattle.pipe_schema.specs.declared.data_type.DataType.{DataType}
use Rattle.pipe_rows.specs.declared.sort_field.SortField.{SortField}
use Rattle.pipe_rows.specs.declared.decode_value.Decoded.{Decoded}
use Rattle.pipe_rows.specs.declared.decode_value.Unescaped.{Unescaped}
use Rattle.pipe_rows.specs.declared.decode_value.Step.{Step}
use Rattle.pipe_rows.specs.declared.decode_value.Step.TheVariants as step
use Rattle.pipe_rows.specs.Encoded.{Encoded, encoded_at}
use Rattle.pipe_rows.specs.Equality.{IsCell, IsRow}
use Rattle.pipe_rows.specs.Ordered.{ended_bytes, directed_bytes, value_bytes, ordered_cell, ordered_row}

-- the bytes are the ordered encoding of the row
abbrev pub Encodes : List SortField → List DataType → Row → List ℕ → Type 0
Encodes fields dtypes row bytes = IsRow dtypes row × (ordered_row fields row ≡ bytes)

-- the bytes are the ordered encoding of some row of these types
pub record IsEncoding (fields : List SortField) (dtypes : List DataType) (bytes : List ℕ) : Type 0 where
  pub row : Row
  pub encodes : Encodes fields dtypes row bytes

-- the bytes of an encoded row
abbrev pub encoding_at : List Encoded → ℕ → List ℕ
encoding_at rows i = (encoded_at rows i).bytes

-- row i is the first that is no ordered encoding of a row of these types
pub record IsFirstFault (fields : List SortField) (dtypes : List DataType) (rows : List Encoded) (i : ℕ) : Type 0 where
  pub within : i < length rows
  pub before : (k : ℕ) → k < i → IsEncoding fields dtypes (encoding_at rows k)
  pub here : ¬ IsEncoding fields dtypes (encoding_at rows i)

-- ---- the parts of a row

-- the bytes begin with a text and its end
pub record IsEnded (bytes : List ℕ) : Type 0 where
  pub text : List ℕ
  pub more : List ℕ
  pub is : ended_bytes text ++ more ≡ bytes

-- what stands at the front of an escaped text: a byte that isn't 0, a byte 0, the end, or nothing of these
abbrev pub StepIs : Step → List ℕ → Type 0
StepIs (step.Byte byte) tail = (0 < byte) × (tail ≡ byte ∷ drop 1 tail)
StepIs step.Zero tail = tail ≡ 0 ∷ 255 ∷ drop 2 tail
StepIs step.End tail = tail ≡ 0 ∷ 0 ∷ drop 2 tail
StepIs step.Fault tail = ¬ IsEnded tail

-- a text and its end were taken from the front
pub record TakesText (bytes text : List ℕ) (used : ℕ) : Type 0 where
  pub within : used ≤ length bytes
  pub is : ended_bytes text ++ drop used bytes ≡ bytes

abbrev pub FindsText : List ℕ → Option Unescaped → Type 0
FindsText bytes found = MatchOption found (¬ IsEnded bytes) (λ u. TakesText bytes u.text.items u.used)

-- a text of these bytes, or none where they aren't UTF-8
abbrev pub FindsUtf8 : List ℕ → Option AnyValue → Type 0
FindsUtf8 bytes found = MatchOption found (¬ IsUtf8 bytes) (λ value. (value ≡ cell.String bytes) × InRange value)

-- the bytes begin with a value of the type
pub record IsValue (dtype : DataType) (descending : Bool) (bytes : List ℕ) : Type 0 where
  pub value : AnyValue
  pub more : List ℕ
  pub fits : IsCell dtype value
  pub not_null : is_null_cell value ≡ false
  pub is : directed_bytes descending (value_bytes value) ++ more ≡ bytes

-- a value of the type was taken from the front
pub record TakesValue (dtype : DataType) (descending : Bool) (bytes : List ℕ) (value : AnyValue) (used : ℕ) : Type 0 where
  pub fits : IsCell dtype value
  pub not_null : is_null_cell value ≡ false
  pub within : used ≤ length bytes
  pub is : directed_bytes descending (value_bytes value) ++ drop used bytes ≡ bytes

abbrev pub FindsValue : DataType → Bool → List ℕ → Option Decoded → Type 0
FindsValue dtype descending bytes found = MatchOption found (¬ IsValue dtype descending bytes) (λ d. TakesValue dtype descending bytes d.value d.used)

-- the bytes begin with a cell of the type
pub record StartsWithCell (field : SortField) (dtype : DataType) (bytes : List ℕ) : Type 0 where
  pub value : AnyValue
  pub more : List ℕ
  pub fits : IsCell dtype value
  pub is : ordered_cell field.descending field.nulls_last value ++ more ≡ bytes

-- a cell of the type was taken from the front
pub record TakesCell (field : SortField) (dtype : DataType) (bytes : List ℕ) (value : AnyValue) (used : ℕ) : Type 0 where
  pub fits : IsCell dtype value
  pub within : used ≤ length bytes
  pub is : ordered_cell field.descending field.nulls_last value ++ drop used bytes ≡ bytes

abbrev pub FindsCell : SortField → DataType → List ℕ → Option Decoded → Type 0
FindsCell field dtype bytes found = MatchOption found (¬ StartsWithCell field dtype bytes) (λ d. TakesCell field dtype bytes d.value d.used)

-- no value of a type of fixed width stands at the front, or one was taken from it
abbrev pub FindsNative : {T : Type 0} → (Option T → AnyValue) → DataType → Bool → List ℕ → Option Decoded → Type 0
FindsNative {T = T} cell_of dtype descending bytes None = (x : T) (more : List ℕ) → directed_bytes descending (ordered_bytes (cell_of (Some x))) ++ more ≡ bytes → ⊥
FindsNative cell_of dtype descending bytes (Some found) = TakesValue dtype descending bytes found.value found.used

-- ---- rows

abbrev pub FindsRow : List SortField → List DataType → List ℕ → Option (Vec AnyValue Global) → Type 0
FindsRow fields dtypes bytes found = MatchOption found (¬ IsEncoding fields dtypes bytes) (λ row. Encodes fields dtypes row.items bytes)

-- the field of a column without a name
abbrev pub unnamed_field : DataType → Field
unnamed_field dtype = record { name = []; dtype = dtype }

-- the columns hold the cells of the first n of some encoded rows, and have no names
pub record HoldsRows (fields : List SortField) (dtypes : List DataType) (rows : List Encoded) (n : ℕ) (columns : List Cells) : Type 0 where
  pub typed : map field_of columns ≡ map unnamed_field dtypes
  pub even : AllOfHeight n columns
  pub cells : (i : ℕ) → i < n → Encodes fields dtypes (row_at columns i) (encoding_at rows i)

-- the columns hold the cells of all these rows, and have no names
abbrev pub AreDecoded : List SortField → List DataType → List Encoded → List Cells → Type 0
AreDecoded fields dtypes rows columns = HoldsRows fields dtypes rows (length rows) columns

-- a column without a name or a cell
abbrev pub empty_column : DataType → Cells
empty_column dtype = record { name = []; dtype = dtype; cells = [] }

-- the columns with one more row
abbrev pub pushed_row : List Cells → Row → List Cells
pushed_row (column ∷ columns) (x ∷ row) = record column { cells = column.cells ++ x ∷ [] } ∷ pushed_row columns row
pushed_row _ _ = []

-- the row that is no encoding is the first such; want of memory says nothing
abbrev pub FaultIs : List SortField → List DataType → List Encoded → RowsError → Type 0
FaultIs fields dtypes rows (fault.NotARow i) = IsFirstFault fields dtypes rows i
FaultIs fields dtypes rows fault.Memory = Unit {0}
