-- The rows of the columns of rows are these rows; the place of a key's name is one of a schema's.
use Rattle.std.proofs.Common.{◌≡◌, ℕ, ◌+◌, ◌<◌, List, [], ◌∷◌, length, map, get_or, drop, refl, ap, sym, ◌∙◌, subst, arith, Option, Some, None, unwrap_or}
use Rattle.std.specs.Prelude.{All, IfSome}
use Rattle.std.proofs.lemmas.List.{get_or-map, drop_more, drop_all, length-map}
use Rattle.std.proofs.lemmas.List.FromFn.{fill_by_all}
use Rattle.pipe_schema.specs.Schema.{IsSchema, place_of}
use Rattle.pipe_schema.specs.Rows.{Row}
use Rattle.pipe_column.specs.Series.{Cells, cell_at}
use Rattle.pipe_column.specs.Columns.{cell_in, row_at, column_rows, even_rows, height_of, field_of}
use Rattle.pipe_frame.specs.Frame.{columns_from, cell_of_row}
use Rattle.pipe_schema.specs.declared.any_value.AnyValue.TheVariants as cell
use Rattle.pipe_schema.specs.declared.field.Field.{Field}
use Rattle.pipe_expr.proofs.NamedColumns as named
use Rattle.pipe_events.proofs.FitLemmas.{fields-from}

some-field : (schema : List Field) → IsSchema schema → 0 < length schema
some-field [] h = cc
some-field (field ∷ fields) h = omega arith

pub place_below : (name : List ℕ) (schema : List Field) → IsSchema schema → unwrap_or (place_of name schema) 0 < length schema
place_below name schema good =
    let split : (o : Option ℕ) → place_of name schema ≡ o → unwrap_or o 0 < length schema = elim [
      | Some i ↦ λ e. named.place_below name schema i e
      | None ↦ λ e. some-field schema good
    ] in split (place_of name schema) refl

module _ (rows : List Row) (r : ℕ) (inside : r < length rows) where
  abbrev row : Row
  row = get_or rows r []

  cell-there : (i : ℕ) → cell_at (map (cell_of_row i) rows) r ≡ cell_at row i
  cell-there i = get_or-map (cell_of_row i) rows r [] cell.Null inside

  -- from a column on, a row of the columns is what is left of the row
  rest-of-row : (i : ℕ) (fields : List Field) → length row ≡ i + length fields → map (cell_in r) (columns_from i fields rows) ≡ drop i row
  rest-of-row i [] long = sym (drop_all i row (omega (arith, long)))
  rest-of-row i (field ∷ fields) long =
      let here : i < length row = omega (arith, long) in
      ap (λ c. c ∷ map (cell_in r) (columns_from (i + 1) fields rows)) (cell-there i)
      ∙ ap (λ l. cell_at row i ∷ l) (rest-of-row (i + 1) fields (omega (arith, long)))
      ∙ sym (drop_more row i cell.Null here)

height : (schema : List Field) (rows : List Row) → IsSchema schema → height_of (columns_from 0 schema rows) ≡ length rows
height [] rows good = cc
height (field ∷ fields) rows good = length-map rows (cell_of_row 0)

module _ (schema : List Field) (rows : List Row) where
  all-rows : All (λ row. length row ≡ length schema) rows → IsSchema schema → even_rows (columns_from 0 schema rows) ≡ rows
  all-rows wide good =
      let columns = columns_from 0 schema rows in
      let each : rows ≡ column_rows columns (length rows) = fill_by_all (row_at columns) rows (length rows) [] refl (λ k h. sym (rest-of-row rows k h 0 schema (omega (arith, wide k [] h)))) in
      ap (column_rows columns) (height schema rows good) ∙ sym each

  -- the columns that were made
  pub found-columns : {X : Type 0} (found : Option X) (columns : X) (read : X → List Cells) → found ≡ Some columns → IfSome found (λ v. read v ≡ columns_from 0 schema rows) → read columns ≡ columns_from 0 schema rows
  found-columns found columns read is h = subst (λ o. IfSome o (λ v. read v ≡ columns_from 0 schema rows)) is h

  -- the schema and the rows of their frame
  pub framed-schema : (columns : List Cells) → columns ≡ columns_from 0 schema rows → map field_of columns ≡ schema
  framed-schema columns is = ap (map field_of) is ∙ fields-from 0 schema rows

  pub framed-rows : (columns : List Cells) → columns ≡ columns_from 0 schema rows → All (λ row. length row ≡ length schema) rows → IsSchema (map field_of columns) → even_rows columns ≡ rows
  framed-rows columns is wide good = ap even_rows is ∙ all-rows wide (subst IsSchema (framed-schema columns is) good)
