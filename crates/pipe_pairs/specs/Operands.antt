-- What formulas make of the values of two operands.
use Rattle.std.specs.Ordering.{is_eq, is_ne, is_lt, is_le, is_gt, is_ge}
use Rattle.pipe_schema.specs.declared.any_value.AnyValue.{AnyValue}
use Rattle.pipe_schema.specs.declared.any_value.AnyValue.TheVariants as cell
use Rattle.pipe_expr.specs.Formula.{Formula, Column, Literal, Add, Sub, Mul, Eq, NotEq, Lt, LtEq, Gt, GtEq, And, Or, Not, IsNull, IsNotNull}
use Rattle.pipe_expr.specs.Values.{sum_of, difference_of, product_of, compared, both_of, either_of}

-- null where the formula hasn't two operands
abbrev pub operated : Formula → AnyValue → AnyValue → AnyValue
operated (Column name) a b = cell.Null
operated (Literal t value) a b = cell.Null
operated (Add left right) a b = sum_of a b
operated (Sub left right) a b = difference_of a b
operated (Mul left right) a b = product_of a b
operated (Eq left right) a b = compared is_eq a b
operated (NotEq left right) a b = compared is_ne a b
operated (Lt left right) a b = compared is_lt a b
operated (LtEq left right) a b = compared is_le a b
operated (Gt left right) a b = compared is_gt a b
operated (GtEq left right) a b = compared is_ge a b
operated (And left right) a b = both_of a b
operated (Or left right) a b = either_of a b
operated (Not inner) a b = cell.Null
operated (IsNull inner) a b = cell.Null
operated (IsNotNull inner) a b = cell.Null
