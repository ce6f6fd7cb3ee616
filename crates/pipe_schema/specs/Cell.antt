-- Cells (relational algebra): a cell is null or a value of one of eight types.
use Rattle.std.specs.Prelude.{ℕ, ℤ, List, Bool, true, false, Option, Some, None, nat_eq}
use Rattle.std.specs.Ordering.{int_eq, nat_cmp, int_cmp, bool_cmp}
use Rattle.std.specs.Bool.{beq}
use Rattle.std.specs.Str.{bytes_eq}
use Rattle.std.specs.Cmp.Lexicographic.{slice_cmp}
use Rattle.std.specs.declared.cmp.Ordering.{Ordering}
use Rattle.std.specs.declared.cmp.Ordering.TheVariants as ordering
use Rattle.pipe_schema.specs.declared.any_value.AnyValue.{AnyValue}
use Rattle.pipe_schema.specs.declared.any_value.AnyValue.TheVariants as cell
use Rattle.pipe_schema.specs.declared.data_type.DataType.{DataType}
use Rattle.pipe_schema.specs.declared.data_type.DataType.TheVariants as dtype

-- the type of a cell, none for null
abbrev pub dtype_of_cell : AnyValue → Option DataType
dtype_of_cell cell.Null = None
dtype_of_cell (cell.Int32 _) = Some dtype.Int32
dtype_of_cell (cell.Int64 _) = Some dtype.Int64
dtype_of_cell (cell.UInt32 _) = Some dtype.UInt32
dtype_of_cell (cell.UInt64 _) = Some dtype.UInt64
dtype_of_cell (cell.Boolean _) = Some dtype.Boolean
dtype_of_cell (cell.String _) = Some dtype.String
dtype_of_cell (cell.Binary _) = Some dtype.Binary
dtype_of_cell (cell.Int128 _) = Some dtype.Int128

-- whether two types are the same
abbrev pub eq_dtype : DataType → DataType → Bool
eq_dtype dtype.Int32 dtype.Int32 = true
eq_dtype dtype.Int32 _ = false
eq_dtype dtype.Int64 dtype.Int64 = true
eq_dtype dtype.Int64 _ = false
eq_dtype dtype.UInt32 dtype.UInt32 = true
eq_dtype dtype.UInt32 _ = false
eq_dtype dtype.UInt64 dtype.UInt64 = true
eq_dtype dtype.UInt64 _ = false
eq_dtype dtype.Boolean dtype.Boolean = true
eq_dtype dtype.Boolean _ = false
eq_dtype dtype.String dtype.String = true
eq_dtype dtype.String _ = false
eq_dtype dtype.Binary dtype.Binary = true
eq_dtype dtype.Binary _ = false
eq_dtype dtype.Int128 dtype.Int128 = true
eq_dtype dtype.Int128 _ = false

-- whether a nullable type is none, or this one
abbrev pub fits_type : DataType → Option DataType → Bool
fits_type dtype None = true
fits_type dtype (Some own) = eq_dtype dtype own

-- whether a cell may stand in a column of a type: it is null, or of the type
abbrev pub fits_dtype : DataType → AnyValue → Bool
fits_dtype dtype value = fits_type dtype (dtype_of_cell value)

abbrev pub is_null_cell : AnyValue → Bool
is_null_cell cell.Null = true
is_null_cell _ = false

-- whether a cell is true (SQL: null is not true)
abbrev pub is_true_cell : AnyValue → Bool
is_true_cell (cell.Boolean b) = b
is_true_cell _ = false

-- whether two cells are the same, null being the same as null
abbrev pub eq_cell : AnyValue → AnyValue → Bool
eq_cell cell.Null b = is_null_cell b
eq_cell (cell.Int32 a) (cell.Int32 b) = int_eq a b
eq_cell (cell.Int32 _) _ = false
eq_cell (cell.Int64 a) (cell.Int64 b) = int_eq a b
eq_cell (cell.Int64 _) _ = false
eq_cell (cell.UInt32 a) (cell.UInt32 b) = nat_eq a b
eq_cell (cell.UInt32 _) _ = false
eq_cell (cell.UInt64 a) (cell.UInt64 b) = nat_eq a b
eq_cell (cell.UInt64 _) _ = false
eq_cell (cell.Boolean a) (cell.Boolean b) = beq a b
eq_cell (cell.Boolean _) _ = false
eq_cell (cell.String a) (cell.String b) = bytes_eq a b
eq_cell (cell.String _) _ = false
eq_cell (cell.Binary a) (cell.Binary b) = bytes_eq a b
eq_cell (cell.Binary _) _ = false
eq_cell (cell.Int128 a) (cell.Int128 b) = int_eq a b
eq_cell (cell.Int128 _) _ = false

-- the order of two values of one type: numbers by size, false before true, text and bytes by their bytes (SQL);
-- two cells that are no values of one type tie
abbrev pub value_cmp : AnyValue → AnyValue → Ordering
value_cmp cell.Null _ = ordering.Equal
value_cmp (cell.Int32 a) (cell.Int32 b) = int_cmp a b
value_cmp (cell.Int32 _) _ = ordering.Equal
value_cmp (cell.Int64 a) (cell.Int64 b) = int_cmp a b
value_cmp (cell.Int64 _) _ = ordering.Equal
value_cmp (cell.UInt32 a) (cell.UInt32 b) = nat_cmp a b
value_cmp (cell.UInt32 _) _ = ordering.Equal
value_cmp (cell.UInt64 a) (cell.UInt64 b) = nat_cmp a b
value_cmp (cell.UInt64 _) _ = ordering.Equal
value_cmp (cell.Boolean a) (cell.Boolean b) = bool_cmp a b
value_cmp (cell.Boolean _) _ = ordering.Equal
value_cmp (cell.String a) (cell.String b) = slice_cmp nat_cmp a b
value_cmp (cell.String _) _ = ordering.Equal
value_cmp (cell.Binary a) (cell.Binary b) = slice_cmp nat_cmp a b
value_cmp (cell.Binary _) _ = ordering.Equal
value_cmp (cell.Int128 a) (cell.Int128 b) = int_cmp a b
value_cmp (cell.Int128 _) _ = ordering.Equal

-- the cell of a nullable value
abbrev pub int32_cell : Option ℤ → AnyValue
int32_cell (Some x) = cell.Int32 x
int32_cell None = cell.Null

abbrev pub int64_cell : Option ℤ → AnyValue
int64_cell (Some x) = cell.Int64 x
int64_cell None = cell.Null

abbrev pub uint32_cell : Option ℕ → AnyValue
uint32_cell (Some x) = cell.UInt32 x
uint32_cell None = cell.Null

abbrev pub uint64_cell : Option ℕ → AnyValue
uint64_cell (Some x) = cell.UInt64 x
uint64_cell None = cell.Null

abbrev pub boolean_cell : Option Bool → AnyValue
boolean_cell (Some x) = cell.Boolean x
boolean_cell None = cell.Null

abbrev pub string_cell : Option (List ℕ) → AnyValue
string_cell (Some x) = cell.String x
string_cell None = cell.Null

abbrev pub binary_cell : Option (List ℕ) → AnyValue
binary_cell (Some x) = cell.Binary x
binary_cell None = cell.Null

abbrev pub int128_cell : Option ℤ → AnyValue
int128_cell (Some x) = cell.Int128 x
int128_cell None = cell.Null
