-- The spelling of cells and their types (JSON, RFC 8259).
use Rattle.std.specs.Prelude.{ℕ, ℤ, ◌≡◌, ◌^◌, ◌<◌, List, Option, Some, None, ⊤, codes, FitsSigned, map}
use Rattle.std.specs.Fmt.{signed_decimal}
use Rattle.std.specs.Int.{w32, w64, w128}
use Rattle.hex.specs.Hex.{encode_lower, IsBytes}
use Rattle.serde_json.specs.Data.{Data, null, boolean, number, unsigned, string, array, item, no_items, object, member, no_members}
use Rattle.serde_json.specs.Find.{of_integer}
use Rattle.serde_json.specs.View.{items_of}
use Rattle.pipe_schema.specs.declared.any_value.AnyValue.{AnyValue}
use Rattle.pipe_schema.specs.declared.any_value.AnyValue.TheVariants as cell
use Rattle.pipe_schema.specs.declared.data_type.DataType.{DataType}
use Rattle.pipe_schema.specs.declared.data_type.DataType.TheVariants as dtype

-- null, or the spelling of what is there
abbrev pub maybe : {A : Type 0} → (A → Data) → Option A → Data
maybe spell None = null
maybe spell (Some x) = spell x

-- what is there fits
abbrev pub MaybeFits : {A : Type 0} → (A → Type 0) → Option A → Type 0
MaybeFits Fits None = ⊤
MaybeFits Fits (Some x) = Fits x

-- an array of the spellings
abbrev pub list : {A : Type 0} → (A → Data) → List A → Data
list spell xs = array (items_of (map spell xs))

-- an object with one member
abbrev pub single : List ℕ → Data → Data
single name d = object (member name d no_members)

-- an array of two
abbrev pub couple : Data → Data → Data
couple a b = array (item a (item b no_items))

-- a whole number
abbrev pub whole : ℕ → Data
whole n = number (unsigned n)

abbrev pub type_name : DataType → List ℕ
type_name dtype.Int32 = codes "Int32"
type_name dtype.Int64 = codes "Int64"
type_name dtype.UInt32 = codes "UInt32"
type_name dtype.UInt64 = codes "UInt64"
type_name dtype.Boolean = codes "Boolean"
type_name dtype.String = codes "String"
type_name dtype.Binary = codes "Binary"
type_name dtype.Int128 = codes "Int128"

abbrev pub type_spelling : DataType → Data
type_spelling t = string (type_name t)

-- bytes are a text of lower-case hexadecimal digits
abbrev pub hex_spelling : List ℕ → Data
hex_spelling bytes = string (encode_lower bytes)

-- the text is the digits of the bytes
abbrev pub IsHexOf : List ℕ → List ℕ → Type 0
IsHexOf text bytes = (text ≡ encode_lower bytes) × IsBytes bytes

-- a whole number as a text of decimal digits, after a minus sign where it is negative
abbrev pub decimal_spelling : ℤ → Data
decimal_spelling z = string (signed_decimal z)

abbrev pub cell_spelling : AnyValue → Data
cell_spelling cell.Null = null
cell_spelling (cell.Int32 z) = number (of_integer z)
cell_spelling (cell.Int64 z) = number (of_integer z)
cell_spelling (cell.UInt32 n) = whole n
cell_spelling (cell.UInt64 n) = whole n
cell_spelling (cell.Boolean b) = boolean b
cell_spelling (cell.String s) = string s
cell_spelling (cell.Binary b) = hex_spelling b
cell_spelling (cell.Int128 z) = decimal_spelling z

-- the cell is null or of the type, within its range
abbrev pub FitsType : DataType → AnyValue → Type 0
FitsType t cell.Null = ⊤
FitsType t (cell.Int32 z) = (t ≡ dtype.Int32) × FitsSigned w32 z
FitsType t (cell.Int64 z) = (t ≡ dtype.Int64) × FitsSigned w64 z
FitsType t (cell.UInt32 n) = (t ≡ dtype.UInt32) × (n < 2 ^ 32)
FitsType t (cell.UInt64 n) = (t ≡ dtype.UInt64) × (n < 2 ^ 64)
FitsType t (cell.Boolean b) = t ≡ dtype.Boolean
FitsType t (cell.String s) = t ≡ dtype.String
FitsType t (cell.Binary b) = (t ≡ dtype.Binary) × IsBytes b
FitsType t (cell.Int128 z) = (t ≡ dtype.Int128) × FitsSigned w128 z
