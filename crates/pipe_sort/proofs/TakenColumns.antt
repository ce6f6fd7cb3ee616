-- Columns at some places are the frame's rows there.
use Rattle.std.proofs.Common.{◌≡◌, ℕ, ◌+◌, ◌<◌, List, [], ◌∷◌, length, map, refl, ap, sym, subst, ◌∙◌, arith}
use Rattle.std.specs.Prelude.{All}
use Rattle.std.proofs.lemmas.List.{length-map}
use Rattle.pipe_schema.specs.Rows.{Row}
use Rattle.pipe_schema.specs.Schema.{IsSchema}
use Rattle.pipe_schema.specs.declared.field.Field.{Field}
use Rattle.pipe_column.specs.Series.{Cells, cell_at}
use Rattle.pipe_column.specs.Columns.{AllOfHeight, field_of, column_rows, height_of, chosen_columns}
use Rattle.pipe_frame.specs.Frame.{Table, table_of, columns_of, columns_from, chosen}
use Rattle.pipe_schema.proofs.NamePlaces.{some_field}
use Rattle.pipe_frame.proofs.Tables.{fields-chosen, even-chosen, table_taken}

-- columns are those of a frame
pub record AreColumns (frame : Table) (columns : List Cells) : Type 0 where
  pub columns_are : columns ≡ columns_of frame
  pub wide : length columns ≡ length frame.schema
  pub rows_are : frame.rows ≡ column_rows columns (length frame.rows)
  pub good : IsSchema frame.schema

fields-from : (i : ℕ) (fields : List Field) (rows : List Row) → map field_of (columns_from i fields rows) ≡ fields
fields-from i [] rows = refl
fields-from i (field ∷ fields) rows = ap (λ l. field ∷ l) (fields-from (i + 1) fields rows)

fields-are : (frame : Table) (columns : List Cells) → AreColumns frame columns → map field_of columns ≡ frame.schema
fields-are frame columns h = ap (map field_of) h.columns_are ∙ fields-from 0 frame.schema frame.rows

height-chosen : (columns : List Cells) (places : List ℕ) → 0 < length columns → height_of (chosen_columns columns places) ≡ length places
height-chosen [] places some = absurd (omega arith)
height-chosen (c ∷ columns) places some = length-map places (cell_at c.cells)

height-taken : (frame : Table) (columns taken : List Cells) (places : List ℕ) → AreColumns frame columns → taken ≡ chosen_columns columns places → height_of taken ≡ length places
height-taken frame columns taken places h e =
    let some = some_field frame.schema h.good in
    let wide = h.wide in
    ap height_of e ∙ height-chosen columns places (omega (arith, some, wide))

pub fields-taken : (frame : Table) (columns taken : List Cells) (places : List ℕ) → AreColumns frame columns → taken ≡ chosen_columns columns places → map field_of taken ≡ frame.schema
fields-taken frame columns taken places h e =
    ap (map field_of) e ∙ fields-chosen columns places ∙ fields-are frame columns h

pub even-taken : (frame : Table) (columns taken : List Cells) (places : List ℕ) → AreColumns frame columns → taken ≡ chosen_columns columns places → AllOfHeight (height_of taken) taken
even-taken frame columns taken places h e =
    subst (λ n. AllOfHeight n taken) (sym (height-taken frame columns taken places h e))
    (subst (AllOfHeight (length places)) (sym e) (even-chosen columns places))

pub whole-taken : (frame : Table) (columns taken : List Cells) (places : List ℕ) → AreColumns frame columns → All (λ i. i < length frame.rows) places → taken ≡ chosen_columns columns places → table_of taken (height_of taken) ≡ chosen frame places
whole-taken frame columns taken places h inside e =
    let whole : table_of columns (length frame.rows) ≡ frame =
    ap (λ s. record { schema = s; rows = column_rows columns (length frame.rows) }) (fields-are frame columns h)
    ∙ ap (λ r. record { schema = frame.schema; rows = r }) (sym h.rows_are) in
    ap (table_of taken) (height-taken frame columns taken places h e) ∙ table_taken columns (length frame.rows) places {table = frame} whole inside e
