-- Expressions that several lanes share.
use Rattle.std.specs.Prelude.{◌≡◌, ℕ, List, [], ◌∷◌, Option, Some, None, map, option_map}
use Rattle.std.specs.List.{AllByRecursion}
use Rattle.std.specs.declared.sync.Arc.{Arc}
use Rattle.pipe_frame.specs.Frame.{Table, columns_of}
use Rattle.pipe_schema.specs.Rows.{Row}
use Rattle.pipe_schema.specs.Schema.{IsSchema}
use Rattle.pipe_column.specs.Series.{Cells}
use Rattle.pipe_schema.specs.declared.field.Field.{Field}
use Rattle.pipe_expr.specs.Physical.{expr_column}
use Rattle.pipe_expr.specs.Projections.{select_fields, select_row, expr_named, new_exprs, hstack_fields, hstack_row}
use Rattle.pipe_expr.specs.Formula.{NamedFormula}

-- the expression of one that is shared, and of some
abbrev pub expr_in : {P A : Type 0} → (P → NamedFormula) → Arc P A → NamedFormula
expr_in expr_of shared = expr_of shared.value

abbrev pub exprs_in : {P A : Type 0} → (P → NamedFormula) → List (Arc P A) → List NamedFormula
exprs_in expr_of shared = map (expr_in expr_of) shared

-- the column of one that is shared over a frame
abbrev pub column_over : {P A : Type 0} → (P → NamedFormula) → Table → Arc P A → Cells
column_over expr_of frame shared = expr_column (expr_of shared.value) frame

-- each was made for a schema
abbrev pub IsMadeFor : {P A : Type 0} → (P → List Field) → List Field → Arc P A → Type 0
IsMadeFor schema_of schema shared = schema_of shared.value ≡ schema

-- a row becomes the row of the expressions' values
abbrev pub projected_row : List NamedFormula → List Field → Row → List Row
projected_row exprs schema row = select_row schema exprs row ∷ []

-- a column of a frame, or that of the expression that replaces it
abbrev pub column_or : Table → Cells → Option NamedFormula → Cells
column_or frame column None = column
column_or frame column (Some e) = expr_column e frame

abbrev pub stacked_column : List NamedFormula → Table → Cells → Cells
stacked_column exprs frame column = column_or frame column (expr_named exprs column.name)

-- the column of an expression over a frame
abbrev pub column_of_expr : Table → NamedFormula → Cells
column_of_expr frame e = expr_column e frame

-- a row becomes the row with the expressions' values in the places of their names, the others behind
abbrev pub stacked_row : List NamedFormula → List Field → Row → List Row
stacked_row exprs schema row = hstack_row schema exprs row ∷ []

-- what some shared values are
abbrev pub value_in : {P A : Type 0} → Arc P A → P
value_in shared = shared.value

abbrev pub values_in : {P A : Type 0} → List (Arc P A) → List P
values_in shared = map value_in shared

-- the column of the expression of a name, none where no expression has it
abbrev pub made_named : Table → List NamedFormula → List ℕ → Option Cells
made_named frame exprs name = option_map (column_of_expr frame) (expr_named exprs name)

-- the columns of a frame, each replaced where an expression has its name
abbrev pub replaced : List NamedFormula → Table → List Cells
replaced exprs frame = map (stacked_column exprs frame) (columns_of frame)

-- the columns of those expressions whose names a schema lacks
abbrev pub new_columns : List Field → List NamedFormula → Table → List Cells
new_columns schema exprs frame = map (column_of_expr frame) (new_exprs schema exprs)

-- expressions that were made for a schema, under names that are each one column of the projection
abbrev pub CanProject : {P A : Type 0} → (P → List Field) → (P → NamedFormula) → List (Arc P A) → List Field → Type 0
CanProject schema_of expr_of shared schema =
    AllByRecursion (IsMadeFor schema_of schema) shared
    × IsSchema (select_fields schema (exprs_in expr_of shared))

-- expressions that were made for the schema that a frame has, of names that extend it
abbrev pub CanStack : {P A : Type 0} → (P → List Field) → (P → NamedFormula) → List Field → List (Arc P A) → List Field → Type 0
CanStack schema_of expr_of input shared schema =
    (schema ≡ input)
    × AllByRecursion (IsMadeFor schema_of schema) shared
    × IsSchema (hstack_fields schema (exprs_in expr_of shared))
