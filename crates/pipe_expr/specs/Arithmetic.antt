-- The operations on integers.
use Rattle.pipe_schema.specs.declared.any_value.AnyValue.{AnyValue}
use Rattle.pipe_expr.specs.Values.{sum_of, difference_of, product_of}
use Rattle.pipe_expr.specs.declared.arithmetic.Arithmetic.{Arithmetic}
use Rattle.pipe_expr.specs.declared.arithmetic.Arithmetic.TheVariants as operation

abbrev pub arithmetic_of : Arithmetic → AnyValue → AnyValue → AnyValue
arithmetic_of operation.Sum = sum_of
arithmetic_of operation.Difference = difference_of
arithmetic_of operation.Product = product_of
