-- Expressions that were made for a schema, and the columns that they give.
use Rattle.std.specs.Prelude.{ℕ, List, map}
use Rattle.pipe_frame.specs.Frame.{Table}
use Rattle.pipe_column.specs.Series.{Cells, named_cells}
use Rattle.pipe_schema.specs.declared.field.Field.{Field}
use Rattle.pipe_expr.specs.Types.{type_of}
use Rattle.pipe_expr.specs.Values.{value_of}
use Rattle.pipe_expr.specs.Projections.{known_type}
use Rattle.pipe_expr.specs.Formula.{Formula, NamedFormula}
use Rattle.pipe_expr.specs.declared.expr.NamedExpr.{NamedExpr}

-- an expression with its name, and the schema that it was made for
pub record Physical : Type 0 where
  pub expr : NamedExpr
  pub schema : List Field

-- the column of a formula over a frame: its type, and its value at each row
abbrev pub column_of : List ℕ → Formula → Table → Cells
column_of name formula frame =
    named_cells name (known_type (type_of formula frame.schema)) (map (value_of formula frame.schema) frame.rows)

abbrev pub expr_column : NamedFormula → Table → Cells
expr_column e frame = column_of e.name e.formula frame
