-- What the parts of an evaluation give.
use Rattle.std.specs.Prelude.{◌≡◌, ℕ, Option, Some, None, map, length}
use Rattle.std.specs.Ordering.{is_eq, is_ne, is_lt, is_le, is_gt, is_ge}
use Rattle.pipe_frame.specs.Frame.{Table}
use Rattle.pipe_column.specs.Series.{Cells}
use Rattle.pipe_schema.specs.declared.any_value.AnyValue.{AnyValue}
use Rattle.pipe_schema.specs.declared.any_value.AnyValue.TheVariants as cell
use Rattle.pipe_schema.specs.declared.data_type.DataType.{DataType}
use Rattle.pipe_expr.specs.Types.{type_of, arithmetic_type, comparison_type, logic_type}
use Rattle.pipe_expr.specs.Values.{value_of, sum_of, difference_of, product_of, compared, both_of, either_of}
use Rattle.pipe_expr.specs.Operands.{operand_dtype, operand_cells, IsOperand, IsRowByRow}
use Rattle.pipe_expr.specs.declared.operand.Operand.{Operand}
use Rattle.pipe_expr.specs.Formula.{Formula, Column, Literal, Add, Sub, Mul, Eq, NotEq, Lt, LtEq, Gt, GtEq, And, Or, Not, IsNull, IsNotNull}

-- an operand has the type and, row by row, the values of an expression
pub record IsValueOf (formula : Formula) (table : Table) (operand : Operand) : Type 0 where
  pub typed : type_of formula table.schema ≡ Some (operand_dtype operand)
  pub cells : operand_cells (length table.rows) operand ≡ map (value_of formula table.schema) table.rows
  pub sized : IsOperand (length table.rows) operand

-- what a formula without two sides gives of two values
abbrev pub no_value : AnyValue → AnyValue → AnyValue
no_value a b = cell.Null

-- the type that an operator with two sides gives of theirs
abbrev pub type_of_two : Formula → DataType → DataType → Option DataType
type_of_two (Add l r) a b = arithmetic_type (Some a) (Some b)
type_of_two (Sub l r) a b = arithmetic_type (Some a) (Some b)
type_of_two (Mul l r) a b = arithmetic_type (Some a) (Some b)
type_of_two (Eq l r) a b = comparison_type (Some a) (Some b)
type_of_two (NotEq l r) a b = comparison_type (Some a) (Some b)
type_of_two (Lt l r) a b = comparison_type (Some a) (Some b)
type_of_two (LtEq l r) a b = comparison_type (Some a) (Some b)
type_of_two (Gt l r) a b = comparison_type (Some a) (Some b)
type_of_two (GtEq l r) a b = comparison_type (Some a) (Some b)
type_of_two (And l r) a b = logic_type (Some a) (Some b)
type_of_two (Or l r) a b = logic_type (Some a) (Some b)
type_of_two (Column name) a b = None
type_of_two (Literal dtype value) a b = None
type_of_two (Not inner) a b = None
type_of_two (IsNull inner) a b = None
type_of_two (IsNotNull inner) a b = None

-- the value that an operator with two sides gives of theirs
abbrev pub value_of_two : Formula → AnyValue → AnyValue → AnyValue
value_of_two (Add l r) = sum_of
value_of_two (Sub l r) = difference_of
value_of_two (Mul l r) = product_of
value_of_two (Eq l r) = compared is_eq
value_of_two (NotEq l r) = compared is_ne
value_of_two (Lt l r) = compared is_lt
value_of_two (LtEq l r) = compared is_le
value_of_two (Gt l r) = compared is_gt
value_of_two (GtEq l r) = compared is_ge
value_of_two (And l r) = both_of
value_of_two (Or l r) = either_of
value_of_two (Column name) = no_value
value_of_two (Literal dtype value) = no_value
value_of_two (Not inner) = no_value
value_of_two (IsNull inner) = no_value
value_of_two (IsNotNull inner) = no_value

-- the type that an operator gives of two operands
abbrev pub dtype_of_two : Formula → Operand → Operand → Option DataType
dtype_of_two formula left right = type_of_two formula (operand_dtype left) (operand_dtype right)

-- a series has the type and, row by row, the values that an operator gives of two operands
pub record IsOfOperands (formula : Formula) (rows : ℕ) (left right : Operand) (series : Cells) : Type 0 where
  pub typed : dtype_of_two formula left right ≡ Some series.dtype
  pub cells : IsRowByRow (value_of_two formula) rows left right series
