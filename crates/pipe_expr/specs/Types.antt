-- The type of a formula over a schema (the typing of relational expressions), and the columns that it names.
use Rattle.std.specs.Prelude.{ℕ, List, [], ◌∷◌, ◌++◌, Bool, true, false, ◌&&◌, if◌then◌else◌, Option, Some, None}
use Rattle.std.specs.Str.{bytes_eq}
use Rattle.pipe_schema.specs.Cell.{eq_dtype, fits_dtype}
use Rattle.pipe_schema.specs.Schema.{first_unknown}
use Rattle.pipe_schema.specs.declared.any_value.AnyValue.{AnyValue}
use Rattle.pipe_schema.specs.declared.data_type.DataType.{DataType}
use Rattle.pipe_schema.specs.declared.data_type.DataType.TheVariants as dtype
use Rattle.pipe_schema.specs.declared.field.Field.{Field}
use Rattle.pipe_expr.specs.Formula.{Formula, Column, Literal, Add, Sub, Mul, Eq, NotEq, Lt, LtEq, Gt, GtEq, And, Or, Not, IsNull, IsNotNull}

-- the type of the first column of a name
abbrev pub type_of_column : List ℕ → List Field → Option DataType
type_of_column name [] = None
type_of_column name (field ∷ fields) = if bytes_eq field.name name then Some field.dtype else type_of_column name fields

abbrev pub is_integer : DataType → Bool
is_integer dtype.Int32 = true
is_integer dtype.Int64 = true
is_integer dtype.UInt32 = true
is_integer dtype.UInt64 = true
is_integer dtype.Boolean = false
is_integer dtype.String = false
is_integer dtype.Binary = false
is_integer dtype.Int128 = true

-- a literal has its type where its value is null or of that type
abbrev pub literal_type : DataType → AnyValue → Option DataType
literal_type t value = if fits_dtype t value then Some t else None

-- arithmetic takes two equal integer types, and gives that type
abbrev pub arithmetic_type : Option DataType → Option DataType → Option DataType
arithmetic_type (Some a) (Some b) = if eq_dtype a b && is_integer a then Some a else None
arithmetic_type _ _ = None

-- a comparison takes two equal types
abbrev pub comparison_type : Option DataType → Option DataType → Option DataType
comparison_type (Some a) (Some b) = if eq_dtype a b then Some dtype.Boolean else None
comparison_type _ _ = None

-- `not`, `and` and `or` take truth values
abbrev pub not_type : Option DataType → Option DataType
not_type (Some a) = if eq_dtype a dtype.Boolean then Some dtype.Boolean else None
not_type None = None

abbrev pub logic_type : Option DataType → Option DataType → Option DataType
logic_type (Some a) (Some b) = if eq_dtype a dtype.Boolean && eq_dtype b dtype.Boolean then Some dtype.Boolean else None
logic_type _ _ = None

-- a test for null takes any type
abbrev pub null_test_type : Option DataType → Option DataType
null_test_type (Some _) = Some dtype.Boolean
null_test_type None = None

-- the type of a formula, none where it has none
abbrev pub type_of : Formula → List Field → Option DataType
type_of (Column name) schema = type_of_column name schema
type_of (Literal t value) schema = literal_type t value
type_of (Add left right) schema = arithmetic_type (type_of left schema) (type_of right schema)
type_of (Sub left right) schema = arithmetic_type (type_of left schema) (type_of right schema)
type_of (Mul left right) schema = arithmetic_type (type_of left schema) (type_of right schema)
type_of (Eq left right) schema = comparison_type (type_of left schema) (type_of right schema)
type_of (NotEq left right) schema = comparison_type (type_of left schema) (type_of right schema)
type_of (Lt left right) schema = comparison_type (type_of left schema) (type_of right schema)
type_of (LtEq left right) schema = comparison_type (type_of left schema) (type_of right schema)
type_of (Gt left right) schema = comparison_type (type_of left schema) (type_of right schema)
type_of (GtEq left right) schema = comparison_type (type_of left schema) (type_of right schema)
type_of (And left right) schema = logic_type (type_of left schema) (type_of right schema)
type_of (Or left right) schema = logic_type (type_of left schema) (type_of right schema)
type_of (Not inner) schema = not_type (type_of inner schema)
type_of (IsNull inner) schema = null_test_type (type_of inner schema)
type_of (IsNotNull inner) schema = null_test_type (type_of inner schema)

-- the columns that a formula names, read left to right
abbrev pub columns_in : Formula → List (List ℕ)
columns_in (Column name) = name ∷ []
columns_in (Literal t value) = []
columns_in (Add left right) = columns_in left ++ columns_in right
columns_in (Sub left right) = columns_in left ++ columns_in right
columns_in (Mul left right) = columns_in left ++ columns_in right
columns_in (Eq left right) = columns_in left ++ columns_in right
columns_in (NotEq left right) = columns_in left ++ columns_in right
columns_in (Lt left right) = columns_in left ++ columns_in right
columns_in (LtEq left right) = columns_in left ++ columns_in right
columns_in (Gt left right) = columns_in left ++ columns_in right
columns_in (GtEq left right) = columns_in left ++ columns_in right
columns_in (And left right) = columns_in left ++ columns_in right
columns_in (Or left right) = columns_in left ++ columns_in right
columns_in (Not inner) = columns_in inner
columns_in (IsNull inner) = columns_in inner
columns_in (IsNotNull inner) = columns_in inner

-- the first name of a formula, read left to right, that no field has
abbrev pub unknown_column : List Field → Formula → Option (List ℕ)
unknown_column schema formula = first_unknown schema (columns_in formula)
