-- A function over a frame, and the schemas that it is for.
use Rattle.std.specs.Prelude.{◌≡◌, ℕ, ◌<◌, List, ◌++◌, length, Some, None}
use Rattle.std.specs.List.{AllByRecursion, flat_map}
use Rattle.pipe_frame.specs.Frame.{Table}
use Rattle.pipe_schema.specs.Schema.{IsSchema, first_unknown}
use Rattle.pipe_schema.specs.declared.data_type.DataType.{DataType}
use Rattle.pipe_schema.specs.declared.field.Field.{Field}
use Rattle.pipe_expr.specs.Projections.{function_fields, function_rows, on_type}
use Rattle.pipe_expr.specs.Types.{type_of_column}
use Rattle.pipe_expr.specs.declared.join_words.FunctionIR.{FunctionIR}
use Rattle.pipe_expr.specs.declared.join_words.FunctionIR.TheVariants as function

-- what a function makes of a frame, row by row
abbrev pub applied : FunctionIR → Table → Table
applied f frame = record {
  schema = function_fields f frame.schema;
  rows = flat_map (function_rows f frame.schema) frame.rows;
}

-- the column of a name has a type
abbrev pub IsOfType : List Field → DataType → List ℕ → Type 0
IsOfType schema dtype name = type_of_column name schema ≡ Some dtype

-- an unpivot of one column or more of one type, all columns known
pub record ReadsColumns (on index : List (List ℕ)) (schema : List Field) : Type 0 where
  pub some : 0 < length on
  pub known : first_unknown schema (on ++ index) ≡ None
  pub typed : AllByRecursion (IsOfType schema (on_type schema on)) on

abbrev pub CanRead : FunctionIR → List Field → Type 0
CanRead (function.Unpivot on index variable value) schema = ReadsColumns on index schema
CanRead (function.Rename pairs) schema = Unit {0}

-- a function is well formed over a schema
abbrev pub Applies : FunctionIR → List Field → Type 0
Applies f schema = CanRead f schema × IsSchema (function_fields f schema)
