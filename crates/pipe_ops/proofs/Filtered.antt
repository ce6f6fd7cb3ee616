-- The rows that a mask keeps are those at which the predicate is true.
use Rattle.std.proofs.Common.{◌≡◌, Bool, true, false, cond, List, [], ◌∷◌, ◌++◌, map, refl, ap, sym, ◌∙◌}
use Rattle.std.specs.List.{flat_map}
use Rattle.pipe_frame.specs.Frame.{Table, kept_rows}
use Rattle.pipe_schema.specs.Rows.{Row, Same}
use Rattle.pipe_column.specs.Series.{Cells}
use Rattle.pipe_schema.specs.declared.field.Field.{Field}
use Rattle.pipe_expr.specs.Physical.{expr_column}
use Rattle.pipe_expr.specs.Projections.{passes}
use Rattle.pipe_expr.specs.Values.{value_of}
use Rattle.pipe_expr.specs.Formula.{NamedFormula}
use Rattle.pipe_ops.specs.Each.{filtered_row}
use Rattle.pipe_ops.specs.Pieces.{all_of}
use Rattle.pipe_ops.specs.Laws.{same-equal}

filtered : (e : NamedFormula) (schema : List Field) (rows : List Row) → flat_map (filtered_row e schema) rows ≡ kept_rows (map (value_of e.formula schema) rows) rows
filtered e schema [] = refl
filtered e schema (row ∷ rows) =
    let later = filtered e schema rows in
    let split : (b : Bool) → cond b (row ∷ []) [] ++ flat_map (filtered_row e schema) rows ≡ cond b (row ∷ kept_rows (map (value_of e.formula schema) rows) rows) (kept_rows (map (value_of e.formula schema) rows) rows) = elim [
      | true ↦ ap (λ l. row ∷ l) later
      | false ↦ later
    ] in
    split (passes e.formula schema row)

pub filter_gives : (e : NamedFormula) (frame : Table) (mask : Cells) (rows : List Row) → mask ≡ expr_column e frame → rows ≡ kept_rows mask.cells frame.rows → Same (all_of (filtered_row e frame.schema) frame) rows
filter_gives e frame mask rows made kept =
    same-equal (filtered e frame.schema frame.rows ∙ ap (λ (m : Cells). kept_rows m.cells frame.rows) (sym made) ∙ sym kept)
