-- The value of a formula at a row (SQL: arithmetic that wraps at the type's width, three-valued logic).
use Rattle.std.specs.Prelude.{ℕ, ℤ, ◌+◌, ◌-◌, ◌*◌, ◌%◌, ◌^◌, List, Bool, true, false, Option, Some, None}
use Rattle.std.specs.Ordering.{is_eq, is_ne, is_lt, is_le, is_gt, is_ge}
use Rattle.std.specs.Int.{Width, w32, w64, w128, int_wrapping_add, int_wrapping_sub, int_wrapping_mul}
use Rattle.std.specs.declared.cmp.Ordering.{Ordering}
use Rattle.pipe_schema.specs.Cell.{value_cmp, boolean_cell}
use Rattle.pipe_schema.specs.Rows.{Row}
use Rattle.pipe_schema.specs.Schema.{place_of}
use Rattle.pipe_column.specs.Series.{cell_at}
use Rattle.pipe_schema.specs.declared.any_value.AnyValue.{AnyValue}
use Rattle.pipe_schema.specs.declared.any_value.AnyValue.TheVariants as cell
use Rattle.pipe_schema.specs.declared.field.Field.{Field}
use Rattle.pipe_expr.specs.Nullables.{both, either, opposite, null_test}
use Rattle.pipe_expr.specs.Formula.{Formula, Column, Literal, Add, Sub, Mul, Eq, NotEq, Lt, LtEq, Gt, GtEq, And, Or, Not, IsNull, IsNotNull}

-- the cell of a row at what may be a place
abbrev pub cell_there : Row → Option ℕ → AnyValue
cell_there row None = cell.Null
cell_there row (Some i) = cell_at row i

-- the cell of a row under the first column of a name
abbrev pub named_cell : List Field → Row → List ℕ → AnyValue
named_cell schema row name = cell_there row (place_of name schema)

-- an operation on integers that wraps: on signed ones of a width, and on unsigned ones below a modulus
pub record Wrapping : Type 0 where
  pub signed : Width → ℤ → ℤ → ℤ
  pub unsigned : ℕ → ℕ → ℕ → ℕ

-- an operation on two integers of one type, at the width of the type; null where a side is null
abbrev pub wrapped : Wrapping → AnyValue → AnyValue → AnyValue
wrapped op cell.Null _ = cell.Null
wrapped op (cell.Int32 a) (cell.Int32 b) = cell.Int32 (op.signed w32 a b)
wrapped op (cell.Int32 _) _ = cell.Null
wrapped op (cell.Int64 a) (cell.Int64 b) = cell.Int64 (op.signed w64 a b)
wrapped op (cell.Int64 _) _ = cell.Null
wrapped op (cell.UInt32 a) (cell.UInt32 b) = cell.UInt32 (op.unsigned (2 ^ 32) a b)
wrapped op (cell.UInt32 _) _ = cell.Null
wrapped op (cell.UInt64 a) (cell.UInt64 b) = cell.UInt64 (op.unsigned (2 ^ 64) a b)
wrapped op (cell.UInt64 _) _ = cell.Null
wrapped op (cell.Boolean _) _ = cell.Null
wrapped op (cell.String _) _ = cell.Null
wrapped op (cell.Binary _) _ = cell.Null
wrapped op (cell.Int128 a) (cell.Int128 b) = cell.Int128 (op.signed w128 a b)
wrapped op (cell.Int128 _) _ = cell.Null

abbrev pub sum_of : AnyValue → AnyValue → AnyValue
sum_of = wrapped (record { signed = int_wrapping_add; unsigned = λ modulus a b. (a + b) % modulus })

abbrev pub difference_of : AnyValue → AnyValue → AnyValue
difference_of = wrapped (record { signed = int_wrapping_sub; unsigned = λ modulus a b. (a + (modulus - b)) % modulus })

abbrev pub product_of : AnyValue → AnyValue → AnyValue
product_of = wrapped (record { signed = int_wrapping_mul; unsigned = λ modulus a b. (a * b) % modulus })

-- a comparison: null where a side is null, else by the order of values
abbrev pub compared : (Ordering → Bool) → AnyValue → AnyValue → AnyValue
compared test cell.Null _ = cell.Null
compared test _ cell.Null = cell.Null
compared test a b = cell.Boolean (test (value_cmp a b))

-- the truth value of a cell, none where it is null
abbrev pub truth_of : AnyValue → Option Bool
truth_of cell.Null = None
truth_of (cell.Boolean b) = Some b
truth_of (cell.Int32 _) = None
truth_of (cell.Int64 _) = None
truth_of (cell.UInt32 _) = None
truth_of (cell.UInt64 _) = None
truth_of (cell.String _) = None
truth_of (cell.Binary _) = None
truth_of (cell.Int128 _) = None

-- three-valued logic on cells
abbrev pub both_of : AnyValue → AnyValue → AnyValue
both_of a b = boolean_cell (both (truth_of a) (truth_of b))

abbrev pub either_of : AnyValue → AnyValue → AnyValue
either_of a b = boolean_cell (either (truth_of a) (truth_of b))

abbrev pub opposite_of : AnyValue → AnyValue
opposite_of a = boolean_cell (opposite (truth_of a))

-- whether null, or no null, is found
abbrev pub null_test_cell : Bool → AnyValue → AnyValue
null_test_cell wanted c = cell.Boolean (null_test wanted c)

abbrev pub is_missing : AnyValue → AnyValue
is_missing c = null_test_cell true c

abbrev pub is_present : AnyValue → AnyValue
is_present c = null_test_cell false c

-- the value of a formula at a row
abbrev pub value_of : Formula → List Field → Row → AnyValue
value_of (Column name) schema row = named_cell schema row name
value_of (Literal t value) schema row = value
value_of (Add left right) schema row = sum_of (value_of left schema row) (value_of right schema row)
value_of (Sub left right) schema row = difference_of (value_of left schema row) (value_of right schema row)
value_of (Mul left right) schema row = product_of (value_of left schema row) (value_of right schema row)
value_of (Eq left right) schema row = compared is_eq (value_of left schema row) (value_of right schema row)
value_of (NotEq left right) schema row = compared is_ne (value_of left schema row) (value_of right schema row)
value_of (Lt left right) schema row = compared is_lt (value_of left schema row) (value_of right schema row)
value_of (LtEq left right) schema row = compared is_le (value_of left schema row) (value_of right schema row)
value_of (Gt left right) schema row = compared is_gt (value_of left schema row) (value_of right schema row)
value_of (GtEq left right) schema row = compared is_ge (value_of left schema row) (value_of right schema row)
value_of (And left right) schema row = both_of (value_of left schema row) (value_of right schema row)
value_of (Or left right) schema row = either_of (value_of left schema row) (value_of right schema row)
value_of (Not inner) schema row = opposite_of (value_of inner schema row)
value_of (IsNull inner) schema row = is_missing (value_of inner schema row)
value_of (IsNotNull inner) schema row = is_present (value_of inner schema row)
