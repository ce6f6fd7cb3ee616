-- The column of a name, at some rows.
use Rattle.std.proofs.Common.{◌≡◌, ℕ, zero, suc, ◌+◌, ◌<◌, true, false, List, [], ◌∷◌, Option, Some, None, is_some, length, map, get_or, refl, ap, sym, ◌∙◌, arith}
use Rattle.std.proofs.lemmas.List.{length-map}
use Rattle.std.proofs.lemmas.Option.{slice_get-get_or}
use Rattle.pipe_schema.specs.Rows.{Row}
use Rattle.pipe_column.specs.Series.{Cells, cell_at}
use Rattle.pipe_schema.specs.Schema.{place_of, has_name, names_of}
use Rattle.pipe_column.specs.Columns.{chosen_column}
use Rattle.pipe_frame.specs.Frame.{Table, cell_of_row, column_of, columns_from, columns_of}
use Rattle.pipe_schema.specs.declared.any_value.AnyValue.TheVariants as cell
use Rattle.pipe_schema.specs.declared.field.Field.{Field}
use Rattle.pipe_schema.proofs.NamePlaces.{is_some-place_from}
use Rattle.pipe_frame.proofs.Tables.{map_same}
use Rattle.pipe_expr.specs.Projections.{field_named}
use Rattle.pipe_expr.specs.Values.{cell_there, named_cell}
use Rattle.pipe_ops.proofs.NamedFields.{field-placed}
use Rattle.pipe_source.specs.Lent.{cell_under, whole_column}
use Rattle.pipe_source.specs.Unpivots.{cell_named, column_at}

-- a name of a schema has a place
pub has-place : (name : List ℕ) (fields : List Field) → has_name (names_of fields) name ≡ true → place_of name fields ≡ None → ⊥
has-place name fields known none =
    let there : is_some (place_of name fields) ≡ true = is_some-place_from 0 name fields ∙ known in
    let no : is_some (place_of name fields) ≡ false = ap is_some none in
    let e : true ≡ false = sym there ∙ no in cc

column-from : (n : ℕ) (fields : List Field) (rows : List Row) (i : ℕ) (c : Cells) (d : Field) → i < length fields → get_or (columns_from n fields rows) i c ≡ column_of rows (n + i) (get_or fields i d)
column-from n [] rows i c d less = absurd (omega arith)
column-from n (field ∷ fields) rows zero c d less = ap (λ k. column_of rows k field) (let e : n ≡ n + 0 = omega arith in e)
column-from n (field ∷ fields) rows (suc i) c d less =
    column-from (n + 1) fields rows i c d (omega arith)
    ∙ ap (λ k. column_of rows k (get_or fields i d)) (let e : n + 1 + i ≡ n + suc i = omega arith in e)

-- the cells under a name, by their rows
pub cell-under : (schema : List Field) (name : List ℕ) (rows : List Row) (k : ℕ) → cell_at (map (cell_under schema name) rows) k ≡ named_cell schema (get_or rows k []) name
cell-under schema name [] k =
    let none : (o : Option ℕ) → cell.Null ≡ cell_there [] o = elim [ None ↦ refl | Some i ↦ refl ] in
    none (place_of name schema)
cell-under schema name (row ∷ rows) zero = refl
cell-under schema name (row ∷ rows) (suc k) = cell-under schema name rows k

-- the column at the place of a name
pub column-of-name : (frame : Table) (columns : List Cells) (name : List ℕ) (i : ℕ) (column : Cells) → columns ≡ columns_of frame → place_of name frame.schema ≡ Some i → column ≡ get_or columns i column → column ≡ whole_column frame name
column-of-name frame columns name i column are place is =
    let there = field-placed name frame.schema i place in
    let field : get_or frame.schema i (field_named frame.schema name) ≡ field_named frame.schema name =
    (let found = slice_get-get_or frame.schema i (field_named frame.schema name) there.0 in let same = there.1 in cc) in
    is
    ∙ ap (λ (cs : List Cells). get_or cs i column) are
    ∙ column-from 0 frame.schema frame.rows i column (field_named frame.schema name) there.0
    ∙ ap (λ k. column_of frame.rows k (get_or frame.schema i (field_named frame.schema name))) (let same : 0 + i ≡ i = omega arith in same)
    ∙ ap (column_of frame.rows i) field
    ∙ ap (λ cells. record { name = name; dtype = (field_named frame.schema name).dtype; cells = cells })
    (map_same (cell_of_row i) (cell_under frame.schema name) frame.rows (λ row. ap (cell_there row) (sym place)))

-- the column of a name, at some rows
pub column-at : (frame : Table) (places : List ℕ) (name : List ℕ) (column made : Cells) → column ≡ whole_column frame name → made ≡ chosen_column places column → made ≡ column_at frame places name
column-at frame places name column made is e =
    e ∙ ap (chosen_column places) is
    ∙ ap (λ cells. record { name = name; dtype = (field_named frame.schema name).dtype; cells = cells })
    (map_same (cell_at (map (cell_under frame.schema name) frame.rows)) (cell_named frame name) places (cell-under frame.schema name frame.rows))

-- so many cells
pub whole-height : (frame : Table) (name : List ℕ) → length (whole_column frame name).cells ≡ length frame.rows
whole-height frame name = length-map frame.rows (cell_under frame.schema name)

-- where the search for a name found it, or didn't
pub placed-at : (r : Option ℕ) (bytes name : List ℕ) (fields schema : List Field) (o : Option ℕ) → r ≡ place_of bytes fields → bytes ≡ name → fields ≡ schema → r ≡ o → place_of name schema ≡ o
placed-at r bytes name fields schema o found b f is =
    ap (λ n. place_of n schema) (sym b) ∙ ap (place_of bytes) (sym f) ∙ sym found ∙ is
