-- Why a formula has no type: a name that is unknown comes before a type that doesn't fit.
use Rattle.std.specs.Prelude.{◌≡◌, ◌⊎◌, ℕ, List, Option, Some, None, IsTrue, is_some}
use Rattle.pipe_schema.specs.declared.data_type.DataType.{DataType}
use Rattle.pipe_schema.specs.declared.field.Field.{Field}
use Rattle.pipe_expr.specs.Types.{type_of, unknown_column}
use Rattle.pipe_expr.specs.declared.error.ExprError.{ExprError}
use Rattle.pipe_expr.specs.declared.error.ExprError.TheVariants as fault
use Rattle.pipe_expr.specs.Formula.{Formula}

-- whether a formula has a type over a schema
abbrev pub IsTyped : Formula → List Field → Type 0
IsTyped formula schema = IsTrue (is_some (type_of formula schema))

abbrev pub fault_of : Option (List ℕ) → Option DataType → Option ExprError
fault_of (Some name) t = Some (fault.UnknownColumn name)
fault_of None None = Some fault.TypeMismatch
fault_of None (Some t) = None

-- why a formula has no type over a schema, none where it has one
abbrev pub type_fault : Formula → List Field → Option ExprError
type_fault formula schema = fault_of (unknown_column schema formula) (type_of formula schema)

-- what is told where there is no type: the fault, or that memory ran out
abbrev pub IsTold : Formula → List Field → ExprError → Type 0
IsTold formula schema e = (e ≡ fault.Memory) ⊎ (type_fault formula schema ≡ Some e)
