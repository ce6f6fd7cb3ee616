-- Columns under other names are the frame under other names.
use Rattle.std.proofs.Common.{◌≡◌, ℕ, zero, suc, ◌+◌, ◌<◌, List, [], ◌∷◌, length, map, refl, ap, subst, sym, ◌∙◌, arith}
use Rattle.std.specs.List.{range_with_len}
use Rattle.std.proofs.lemmas.List.{length-map}
use Rattle.pipe_schema.specs.Rows.{Row}
use Rattle.pipe_column.specs.Series.{Cells}
use Rattle.pipe_schema.specs.Schema.{IsSchema}
use Rattle.pipe_column.specs.Columns.{AllOfHeight, field_of, cell_in, row_at, column_rows, height_of}
use Rattle.pipe_frame.specs.Frame.{Table, table_of, columns_from, columns_of}
use Rattle.pipe_schema.specs.declared.field.Field.{Field}
use Rattle.pipe_schema.proofs.NamePlaces.{some_field}
use Rattle.pipe_frame.proofs.Tables.{map_map, map_same}
use Rattle.pipe_expr.specs.Projections.{renamed_field}
use Rattle.pipe_expr.specs.declared.join_words.RenamePair.{RenamePair}
use Rattle.pipe_ops.proofs.Projected.{AreTable}
use Rattle.pipe_source.specs.Renamings.{renamed_column, renamed_frame}

fields-from : (n : ℕ) (fields : List Field) (rows : List Row) → map field_of (columns_from n fields rows) ≡ fields
fields-from n [] rows = refl
fields-from n (field ∷ fields) rows = ap (λ l. field ∷ l) (fields-from (n + 1) fields rows)

even-renamed : (pairs : List RenamePair) (height : ℕ) (columns : List Cells) → AllOfHeight height columns → AllOfHeight height (map (renamed_column pairs) columns)
even-renamed pairs height [] even k d less = absurd (let no : k < 0 = less in omega arith)
even-renamed pairs height (c ∷ columns) even zero d less = even zero c (omega arith)
even-renamed pairs height (c ∷ columns) even (suc k) d less = even-renamed pairs height columns (λ j e lt. even (suc j) e (omega arith)) k d (omega arith)

height-renamed : (pairs : List RenamePair) (height : ℕ) (columns : List Cells) → 0 < length columns → AllOfHeight height columns → height_of (map (renamed_column pairs) columns) ≡ height
height-renamed pairs height [] some even = absurd (omega arith)
height-renamed pairs height (c ∷ columns) some even = even zero c (omega arith)

pub renamed-table : (pairs : List RenamePair) (frame : Table) (columns made : List Cells) → made ≡ map (renamed_column pairs) columns → columns ≡ columns_of frame → length columns ≡ length frame.schema → frame.rows ≡ column_rows columns (length frame.rows) → AllOfHeight (length frame.rows) columns → IsSchema (map (renamed_field pairs) frame.schema) → AreTable made (renamed_frame pairs frame)
renamed-table pairs frame columns made e are wide rows even good =
    let under : map field_of (map (renamed_column pairs) columns) ≡ map (renamed_field pairs) frame.schema =
    map_map field_of (renamed_column pairs) columns
    ∙ sym (map_map (renamed_field pairs) field_of columns)
    ∙ ap (λ (cs : List Cells). map (renamed_field pairs) (map field_of cs)) are
    ∙ ap (map (renamed_field pairs)) (fields-from 0 frame.schema frame.rows) in
    let some : 0 < length columns = (let n = some_field (map (renamed_field pairs) frame.schema) good in omega (arith, length-map frame.schema (renamed_field pairs))) in
    let height = height-renamed pairs (length frame.rows) columns some even in
    let cells : column_rows (map (renamed_column pairs) columns) (length frame.rows) ≡ frame.rows =
    map_same (row_at (map (renamed_column pairs) columns)) (row_at columns) (range_with_len 0 (length frame.rows)) (λ i. map_map (cell_in i) (renamed_column pairs) columns)
    ∙ sym rows in
    let there : AreTable (map (renamed_column pairs) columns) (renamed_frame pairs frame) = record {
      good = subst IsSchema (sym under) good;
      even = subst (λ n. AllOfHeight n (map (renamed_column pairs) columns)) (sym height) (even-renamed pairs (length frame.rows) columns even);
      whole = ap (table_of (map (renamed_column pairs) columns)) height
          ∙ ap (λ s. record { schema = s; rows = column_rows (map (renamed_column pairs) columns) (length frame.rows) }) under
          ∙ ap (λ r. record { schema = map (renamed_field pairs) frame.schema; rows = r }) cells;
    } in
    subst (λ (cs : List Cells). AreTable cs (renamed_frame pairs frame)) (sym e) there
