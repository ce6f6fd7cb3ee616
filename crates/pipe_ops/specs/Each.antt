-- What becomes of one row, operator by operator.
use Rattle.std.specs.Prelude.{◌≡◌, ℕ, List, [], ◌∷◌, Bool, false, Option, Some, None, map, if◌then◌else◌}
use Rattle.pipe_frame.specs.Frame.{Table}
use Rattle.pipe_schema.specs.Rows.{Row}
use Rattle.pipe_schema.specs.Cell.{eq_dtype}
use Rattle.pipe_schema.specs.Schema.{names_of, first_unknown}
use Rattle.pipe_schema.specs.declared.data_type.DataType.{DataType}
use Rattle.pipe_schema.specs.declared.data_type.DataType.TheVariants as dtype
use Rattle.pipe_schema.specs.declared.field.Field.{Field}
use Rattle.pipe_expr.specs.Types.{type_of, type_of_column}
use Rattle.pipe_expr.specs.Projections.{passes, fields_named, row_named}
use Rattle.pipe_expr.specs.Formula.{NamedFormula}

-- a row that passes as it is
abbrev pub passed_row : Row → List Row
passed_row row = row ∷ []

-- an expression is a predicate over a schema: it was made for this schema, and has the type Boolean
abbrev pub IsPredicate : (made_for : List Field) → NamedFormula → List Field → Type 0
IsPredicate made_for e schema =
    (schema ≡ made_for) × (type_of e.formula schema ≡ Some dtype.Boolean)

-- a row is kept where the predicate is true
abbrev pub filtered_row : NamedFormula → List Field → Row → List Row
filtered_row e schema row = if passes e.formula schema row then row ∷ [] else []

-- a row becomes the row of the named columns
abbrev pub named_row : List (List ℕ) → List Field → Row → List Row
named_row names schema row = row_named schema names row ∷ []

-- whether a schema has a field, by its name and type
abbrev pub has_type : Option DataType → DataType → Bool
has_type None dtype = false
has_type (Some t) dtype = eq_dtype t dtype

abbrev pub has_field : List Field → Field → Bool
has_field schema field = has_type (type_of_column field.name schema) field.dtype

-- a schema has each of some fields
pub record HasFields (schema fields : List Field) : Type 0 where
  pub known : first_unknown schema (names_of fields) ≡ None
  pub same : fields_named schema (names_of fields) ≡ fields

-- the columns of some fields of a frame, in their order
abbrev pub reprojected : List Field → Table → Table
reprojected fields frame = record {
  schema = fields;
  rows = map (row_named frame.schema (names_of fields)) frame.rows;
}
