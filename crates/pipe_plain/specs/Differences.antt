-- What differs from the first of several.
use Rattle.std.specs.Prelude.{ℕ, List, Bool, not}
use Rattle.std.specs.Cmp.Lexicographic.{pointwise}
use Rattle.pipe_schema.specs.declared.field.Field.{Field}
use Rattle.pipe_expr.specs.Types.{type_of_column}
use Rattle.pipe_plan.specs.Faults.{eq_field, eq_types}

-- whether the schema of a node is another one
abbrev pub is_other_schema : (ℕ → List Field) → List Field → ℕ → Bool
is_other_schema schema first input = not (pointwise eq_field first (schema input))

-- whether a column is of another type than the column of a name, or either isn't there
abbrev pub is_other_type : List Field → List ℕ → List ℕ → Bool
is_other_type schema first name =
    not (eq_types (type_of_column first schema) (type_of_column name schema))
