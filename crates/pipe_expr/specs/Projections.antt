-- What filters, projections and functions make of a row (relational algebra: selection, projection, extension, renaming; unpivot).
use Rattle.std.specs.Prelude.{ℕ, List, [], ◌∷◌, ◌++◌, Bool, not, if◌then◌else◌, Option, Some, None, map, filter, unwrap_or}
use Rattle.std.specs.Str.{bytes_eq}
use Rattle.pipe_schema.specs.Cell.{is_true_cell}
use Rattle.pipe_schema.specs.Rows.{Row}
use Rattle.pipe_schema.specs.Schema.{has_name, names_of}
use Rattle.pipe_schema.specs.declared.any_value.AnyValue.{AnyValue}
use Rattle.pipe_schema.specs.declared.any_value.AnyValue.TheVariants as cell
use Rattle.pipe_schema.specs.declared.data_type.DataType.{DataType}
use Rattle.pipe_schema.specs.declared.data_type.DataType.TheVariants as dtype
use Rattle.pipe_schema.specs.declared.field.Field.{Field}
use Rattle.pipe_expr.specs.Types.{type_of, type_of_column}
use Rattle.pipe_expr.specs.Values.{named_cell, value_of}
use Rattle.pipe_expr.specs.Formula.{Formula, NamedFormula}
use Rattle.pipe_expr.specs.declared.join_words.RenamePair.{RenamePair}
use Rattle.pipe_expr.specs.declared.join_words.FunctionIR.{FunctionIR}
use Rattle.pipe_expr.specs.declared.join_words.FunctionIR.TheVariants as function

-- ---- selection

-- whether a predicate is true at a row: neither false nor null
abbrev pub passes : Formula → List Field → Row → Bool
passes predicate schema row = is_true_cell (value_of predicate schema row)

abbrev pub filter_rows : Formula → List Field → List Row → List Row
filter_rows predicate schema rows = filter (passes predicate schema) rows

-- ---- the named columns

-- a type that is known to be there
abbrev pub known_type : Option DataType → DataType
known_type t = unwrap_or t dtype.Boolean

abbrev pub field_named : List Field → List ℕ → Field
field_named schema name = record { name = name; dtype = known_type (type_of_column name schema) }

abbrev pub fields_named : List Field → List (List ℕ) → List Field
fields_named schema names = map (field_named schema) names

abbrev pub row_named : List Field → List (List ℕ) → Row → Row
row_named schema names row = map (named_cell schema row) names

-- ---- one column per expression

abbrev pub expr_name : NamedFormula → List ℕ
expr_name e = e.name

abbrev pub expr_field : List Field → NamedFormula → Field
expr_field schema e = record { name = e.name; dtype = known_type (type_of e.formula schema) }

abbrev pub expr_cell : List Field → Row → NamedFormula → AnyValue
expr_cell schema row e = value_of e.formula schema row

abbrev pub select_fields : List Field → List NamedFormula → List Field
select_fields schema exprs = map (expr_field schema) exprs

abbrev pub select_row : List Field → List NamedFormula → Row → Row
select_row schema exprs row = map (expr_cell schema row) exprs

-- ---- the input's columns, with those of expressions

-- the first expression under a name
abbrev pub expr_named : List NamedFormula → List ℕ → Option NamedFormula
expr_named [] name = None
expr_named (e ∷ exprs) name = if bytes_eq e.name name then Some e else expr_named exprs name

-- the expressions under names that no field has
abbrev pub is_new : List Field → NamedFormula → Bool
is_new schema e = not (has_name (names_of schema) e.name)

abbrev pub new_exprs : List Field → List NamedFormula → List NamedFormula
new_exprs schema exprs = filter (is_new schema) exprs

abbrev pub replaced_field : List Field → Field → Option NamedFormula → Field
replaced_field schema field None = field
replaced_field schema field (Some e) = expr_field schema e

abbrev pub stacked_field : List Field → List NamedFormula → Field → Field
stacked_field schema exprs field = replaced_field schema field (expr_named exprs field.name)

abbrev pub hstack_fields : List Field → List NamedFormula → List Field
hstack_fields schema exprs = map (stacked_field schema exprs) schema ++ map (expr_field schema) (new_exprs schema exprs)

abbrev pub replaced_cell : List Field → Row → List ℕ → Option NamedFormula → AnyValue
replaced_cell schema row name None = named_cell schema row name
replaced_cell schema row name (Some e) = expr_cell schema row e

abbrev pub stacked_cell : List Field → List NamedFormula → Row → Field → AnyValue
stacked_cell schema exprs row field = replaced_cell schema row field.name (expr_named exprs field.name)

abbrev pub hstack_row : List Field → List NamedFormula → Row → Row
hstack_row schema exprs row = map (stacked_cell schema exprs row) schema ++ map (expr_cell schema row) (new_exprs schema exprs)

-- ---- functions

-- the type of the first `on` column
abbrev pub on_type : List Field → List (List ℕ) → DataType
on_type schema [] = dtype.Boolean
on_type schema (name ∷ names) = known_type (type_of_column name schema)

-- a column's new name: that of the first renaming of it
abbrev pub renamed : List RenamePair → List ℕ → List ℕ
renamed [] name = name
renamed (pair ∷ pairs) name = if bytes_eq pair.existing name then pair.new_name else renamed pairs name

abbrev pub renamed_field : List RenamePair → Field → Field
renamed_field pairs field = record { name = renamed pairs field.name; dtype = field.dtype }

abbrev pub function_fields : FunctionIR → List Field → List Field
function_fields (function.Unpivot on index variable value) schema =
    fields_named schema index ++ record { name = variable; dtype = dtype.String } ∷ record { name = value; dtype = on_type schema on } ∷ []
function_fields (function.Rename pairs) schema = map (renamed_field pairs) schema

-- a row of an unpivot: the index cells, the column's name, its cell
abbrev pub unpivoted_row : List Field → List (List ℕ) → Row → List ℕ → Row
unpivoted_row schema index row name = row_named schema index row ++ cell.String name ∷ named_cell schema row name ∷ []

-- what a function makes of one row
abbrev pub function_rows : FunctionIR → List Field → Row → List Row
function_rows (function.Unpivot on index variable value) schema row = map (unpivoted_row schema index row) on
function_rows (function.Rename pairs) schema row = row ∷ []
