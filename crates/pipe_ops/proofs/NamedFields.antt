-- Columns selected by their names are the fields and the cells of these names.
use Rattle.std.proofs.Common.{◌≡◌, ℕ, suc, ◌+◌, ◌<◌, Bool, true, false, cond, List, [], ◌∷◌, Option, Some, None, is_some, length, map, refl, ap, sym, ◌∙◌, arith}
use Rattle.std.specs.Prelude.{slice_get, option_map}
use Rattle.std.specs.Str.{bytes_eq}
use Rattle.std.specs.List.{range_with_len, cons_option}
use Rattle.std.specs.Cmp.Lexicographic.{bytes_decides}
use Rattle.std.proofs.lemmas.Option.{slice_get-get_or}
use Rattle.std.proofs.lemmas.List.{length-map}
use Rattle.std.proofs.lemmas.List.Concat.{flat_map_single}
use Rattle.pipe_schema.specs.Rows.{Row, Same}
use Rattle.pipe_column.specs.Series.{Cells}
use Rattle.pipe_schema.specs.Schema.{place_from, place_of, first_unknown, has_name, names_fault, names_of}
use Rattle.pipe_column.specs.Columns.{cell_in, row_at, column_rows}
use Rattle.pipe_frame.specs.Frame.{Table, at_places, places_named, row_at_places, selected, select_fault, else_fault}
use Rattle.pipe_schema.specs.declared.any_value.AnyValue.TheVariants as cell
use Rattle.pipe_schema.specs.declared.error.FrameError.{FrameError}
use Rattle.pipe_schema.specs.declared.error.FrameError.TheVariants as fault
use Rattle.pipe_schema.specs.declared.field.Field.{Field}
use Rattle.pipe_frame.proofs.Tables.{map_map, map_same}
use Rattle.pipe_expr.specs.Types.{type_of_column}
use Rattle.pipe_expr.specs.Values.{named_cell, cell_there}
use Rattle.pipe_expr.specs.Projections.{known_type, field_named, fields_named, row_named}
use Rattle.pipe_ops.specs.Each.{named_row, HasFields, reprojected}
use Rattle.pipe_ops.proofs.StackedNames.{placed}
use Rattle.pipe_ops.specs.Laws.{same-equal}
use Rattle.pipe_ops.specs.Pieces.{all_of}

-- the field at the place of a name
place_field : (n : ℕ) (name : List ℕ) (fields : List Field) (i : ℕ) → place_from n name fields ≡ Some i → (k : ℕ) × (i ≡ n + k) × (k < length fields) × (slice_get fields k ≡ Some (record { name = name; dtype = known_type (type_of_column name fields) }))
place_field n name [] i e = absurd (cc)
place_field n name (field ∷ fields) i e =
    let split : (b : Bool) → bytes_eq field.name name ≡ b → cond b (Some n) (place_from (n + 1) name fields) ≡ Some i → (k : ℕ) × (i ≡ n + k) × (k < length (field ∷ fields)) × (slice_get (field ∷ fields) k ≡ Some (record { name = name; dtype = known_type (cond b (Some field.dtype) (type_of_column name fields)) })) = elim [
      | true ↦ λ same found. (let here : n ≡ i = cc in let e : field.name ≡ name = (bytes_decides field.name name).0 same in
          (0, omega arith, omega arith, ap (λ x. Some (record { name = x; dtype = field.dtype })) e))
      | false ↦ λ other found. (let later = place_field (n + 1) name fields i found in (suc later.0, omega (arith, later.1), omega (arith, later.2), later.3))
    ] in split (bytes_eq field.name name) refl e

pub field-placed : (name : List ℕ) (fields : List Field) (i : ℕ) → place_of name fields ≡ Some i → (i < length fields) × (slice_get fields i ≡ Some (field_named fields name))
field-placed name fields i e =
    let f = place_field 0 name fields i e in
    let same : f.0 ≡ i = omega (arith, f.1) in
    (omega (arith, f.2), ap (slice_get fields) (sym same) ∙ f.3)

-- the first of some names has a place, and so have the others
pub known-first : (fields : List Field) (name : List ℕ) (names : List (List ℕ)) → first_unknown fields (name ∷ names) ≡ None → ((i : ℕ) × (place_of name fields ≡ Some i)) × (first_unknown fields names ≡ None)
known-first fields name names h =
    let there : has_name (names_of fields) name ≡ is_some (place_of name fields) = placed 0 name fields in
    let split : (o : Option ℕ) → place_of name fields ≡ o → has_name (names_of fields) name ≡ is_some o → first_unknown fields (name ∷ names) ≡ None → ((i : ℕ) × (place_of name fields ≡ Some i)) × (first_unknown fields names ≡ None) = elim [
      | Some i ↦ λ e known rest. ((i, e), (let here : cond (has_name (names_of fields) name) (first_unknown fields names) (Some name) ≡ first_unknown fields names = ap (λ b. cond b (first_unknown fields names) (Some name)) known in sym here ∙ rest))
      | None ↦ λ e unknown none. absurd (let here : cond (has_name (names_of fields) name) (first_unknown fields names) (Some name) ≡ Some name = ap (λ b. cond b (first_unknown fields names) (Some name)) unknown in let no : Some name ≡ None = sym here ∙ none in cc)
    ] in split (place_of name fields) refl there h

fields-selected : (fields : List Field) (names : List (List ℕ)) → first_unknown fields names ≡ None → at_places fields (places_named fields names) ≡ fields_named fields names
fields-selected fields [] h = refl
fields-selected fields (name ∷ names) h =
    let first = known-first fields name names h in
    let there = field-placed name fields first.0.0 first.0.1 in
    ap (λ o. at_places fields (cons_option o (places_named fields names))) first.0.1
    ∙ ap (λ o. cons_option o (at_places fields (places_named fields names))) there.1
    ∙ ap (λ l. field_named fields name ∷ l) (fields-selected fields names first.1)

cells-selected : (fields : List Field) (row : Row) (names : List (List ℕ)) → length row ≡ length fields → first_unknown fields names ≡ None → row_at_places (places_named fields names) row ≡ row_named fields names row
cells-selected fields row [] wide h = refl
cells-selected fields row (name ∷ names) wide h =
    let first = known-first fields name names h in
    let there = field-placed name fields first.0.0 first.0.1 in
    ap (λ o. at_places row (cons_option o (places_named fields names))) first.0.1
    ∙ ap (λ o. cons_option o (at_places row (places_named fields names))) (slice_get-get_or row first.0.0 cell.Null (omega (arith, there.0, wide)))
    ∙ ap (λ c. c ∷ at_places row (places_named fields names)) (ap (cell_there row) (sym first.0.1))
    ∙ ap (λ l. named_cell fields row name ∷ l) (cells-selected fields row names wide first.1)

-- a frame of its named columns
abbrev pub named : List (List ℕ) → Table → Table
named names frame = record {
  schema = fields_named frame.schema names;
  rows = map (row_named frame.schema names) frame.rows;
}

pub selected-named : (names : List (List ℕ)) (frame : Table) (columns : List Cells) → first_unknown frame.schema names ≡ None → length columns ≡ length frame.schema → frame.rows ≡ column_rows columns (length frame.rows) → selected frame names ≡ named names frame
selected-named names frame columns known wide rows =
    let places = places_named frame.schema names in
    let each : map (row_at_places places) (column_rows columns (length frame.rows)) ≡ map (row_named frame.schema names) (column_rows columns (length frame.rows)) =
    map_map (row_at_places places) (row_at columns) (range_with_len 0 (length frame.rows))
    ∙ map_same (λ k. row_at_places places (row_at columns k)) (λ k. row_named frame.schema names (row_at columns k)) (range_with_len 0 (length frame.rows))
    (λ k. cells-selected frame.schema (row_at columns k) names (length-map columns (cell_in k) ∙ wide) known)
    ∙ sym (map_map (row_named frame.schema names) (row_at columns) (range_with_len 0 (length frame.rows))) in
    ap (λ s. record { schema = s; rows = map (row_at_places places) frame.rows }) (fields-selected frame.schema names known)
    ∙ ap (λ r. record { schema = fields_named frame.schema names; rows = r }) (ap (map (row_at_places places)) rows ∙ each ∙ ap (map (row_named frame.schema names)) (sym rows))

-- row by row
pub named_each : (names : List (List ℕ)) (frame : Table) (rows : List Row) → rows ≡ (named names frame).rows → Same (all_of (named_row names frame.schema) frame) rows
named_each names frame rows e = same-equal (flat_map_single (row_named frame.schema names) frame.rows ∙ sym e)

-- names that can be selected are known
select-known : (fields : List Field) (names : List (List ℕ)) → select_fault fields names ≡ None → first_unknown fields names ≡ None
select-known fields names h =
    let unknown : (o : Option (List ℕ)) → option_map fault.UnknownColumn o ≡ None → o ≡ None = elim [ Some name ↦ λ e. absurd (cc) | None ↦ λ e. refl ] in
    let split : (first : Option FrameError) → else_fault first (option_map fault.UnknownColumn (first_unknown fields names)) ≡ None → first_unknown fields names ≡ None = elim [
      | Some e ↦ λ some. absurd (cc)
      | None ↦ λ none. unknown (first_unknown fields names) none
    ] in split (names_fault names) h

-- what was selected by names is the frame of the named columns
pub selected_by : (names slice : List (List ℕ)) (frame made : Table) (columns : List Cells) → slice ≡ names → made ≡ selected frame slice → select_fault frame.schema slice ≡ None → length columns ≡ length frame.schema → frame.rows ≡ column_rows columns (length frame.rows) → made ≡ named names frame
selected_by names slice frame made columns same e good wide rows =
    e ∙ selected-named slice frame columns (select-known frame.schema slice good) wide rows ∙ ap (λ n. named n frame) same

-- the columns of some fields, in their order
pub reprojected_by : (fields slice : List Field) (names texts : List (List ℕ)) (frame made : Table) (columns : List Cells) → slice ≡ fields → names ≡ names_of slice → texts ≡ names → made ≡ selected frame texts → select_fault frame.schema texts ≡ None → length columns ≡ length frame.schema → frame.rows ≡ column_rows columns (length frame.rows) → HasFields frame.schema fields → made ≡ reprojected fields frame
reprojected_by fields slice names texts frame made columns same are copied e good wide rows has =
    let texts_are : texts ≡ names_of fields = copied ∙ are ∙ ap names_of same in
    selected_by (names_of fields) texts frame made columns texts_are e good wide rows
    ∙ ap (λ s. record { schema = s; rows = map (row_named frame.schema (names_of fields)) frame.rows }) has.same
