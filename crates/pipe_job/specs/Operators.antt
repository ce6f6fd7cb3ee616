-- The names of operators.
use Rattle.std.specs.Prelude.{ℕ, List, codes}
use Rattle.pipe_job.specs.declared.ops.Unary.{Unary}
use Rattle.pipe_job.specs.declared.ops.Unary.TheVariants as unary
use Rattle.pipe_job.specs.declared.ops.Binary.{Binary}
use Rattle.pipe_job.specs.declared.ops.Binary.TheVariants as binary

abbrev pub unary_name : Unary → List ℕ
unary_name unary.Not = codes "not"
unary_name unary.IsNull = codes "is_null"
unary_name unary.IsNotNull = codes "is_not_null"

abbrev pub binary_name : Binary → List ℕ
binary_name binary.Add = codes "add"
binary_name binary.Sub = codes "sub"
binary_name binary.Mul = codes "mul"
binary_name binary.Eq = codes "eq"
binary_name binary.NotEq = codes "not_eq"
binary_name binary.Lt = codes "lt"
binary_name binary.LtEq = codes "lt_eq"
binary_name binary.Gt = codes "gt"
binary_name binary.GtEq = codes "gt_eq"
binary_name binary.And = codes "and"
binary_name binary.Or = codes "or"
