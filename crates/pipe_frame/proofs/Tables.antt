-- Frames as columns, and as rows.
use Rattle.std.proofs.Common.{◌≡◌, ℕ, ◌+◌, ◌<◌, Bool, true, false, cond, List, [], ◌∷◌, Some, None, length, map, get_or, drop, refl, ap, subst, sym, ◌∙◌, arith, ◌==◌}
use Rattle.std.specs.Prelude.{All, Result, Ok, Err, IfOk}
use Rattle.std.specs.declared.alloc.AllocError.{AllocError}
use Rattle.std.specs.List.{slice_get, range_with_len}
use Rattle.std.proofs.lemmas.List.{length-map, get_or-map, get_or-drop, drop-drop, length-drop}
use Rattle.std.proofs.lemmas.List.FromFn.{length-map-range_with_len, get_or-map-range_with_len, fill_by_all}
use Rattle.std.proofs.lemmas.List.Elements.{All-cons, All-nil}
use Rattle.std.proofs.lemmas.Option.{slice_get-get_or}
use Rattle.std.proofs.lemmas.Bool.Decides.{Decides-eqb}
use Rattle.pipe_schema.specs.Rows.{Row}
use Rattle.pipe_column.specs.Series.{Cells, cell_at, chosen_cells}
use Rattle.pipe_column.specs.Columns.{field_of, cell_in, row_at, column_rows, AllOfHeight, chosen_column, chosen_columns, other_height, height_of}
use Rattle.pipe_frame.specs.Frame.{Table, table_of, chosen_rows, cell_of_row, columns_from, columns_of}
use Rattle.pipe_schema.specs.Schema.{IsSchema}
use Rattle.pipe_schema.specs.declared.field.Field.{Field}
use Rattle.pipe_schema.specs.declared.any_value.AnyValue.TheVariants as cell

-- as many rows as the height says
pub length-column_rows : (columns : List Cells) (height : ℕ) → length (column_rows columns height) ≡ height
length-column_rows columns height = length-map-range_with_len (row_at columns) 0 height

-- the row at a place
pub get_or-column_rows : (columns : List Cells) (height i : ℕ) → i < height → get_or (column_rows columns height) i [] ≡ row_at columns i
get_or-column_rows columns height i lt = get_or-map-range_with_len (row_at columns) 0 height i i [] lt (omega arith)

pub slice_get-column_rows : (columns : List Cells) (height i : ℕ) → i < height → slice_get (column_rows columns height) i ≡ Some (row_at columns i)
slice_get-column_rows columns height i lt = slice_get-get_or (column_rows columns height) i [] (rw length-column_rows lt) ∙ ap Some (get_or-column_rows columns height i lt)

-- ---- choosing rows

pub row_at-chosen : (columns : List Cells) (places : List ℕ) (k : ℕ) → k < length places → row_at (chosen_columns columns places) k ≡ row_at columns (get_or places k 0)
row_at-chosen [] places k lt = refl
row_at-chosen (column ∷ columns) places k lt =
    let here : cell_at (chosen_cells column.cells places) k ≡ cell_at column.cells (get_or places k 0) = get_or-map (cell_at column.cells) places k 0 cell.Null lt
    in ap (λ x. x ∷ row_at (chosen_columns columns places) k) here ∙ ap (λ l. cell_at column.cells (get_or places k 0) ∷ l) (row_at-chosen columns places k lt)

-- choosing in each column is choosing rows
pub column_rows-chosen : (columns : List Cells) (height : ℕ) (places : List ℕ) → All (λ i. i < height) places → column_rows (chosen_columns columns places) (length places) ≡ chosen_rows (column_rows columns height) places
column_rows-chosen columns height places inside =
    sym (fill_by_all (row_at (chosen_columns columns places)) (chosen_rows (column_rows columns height) places) (length places) [] (length-map places _)
    (λ k lt. get_or-map _ places k 0 [] lt ∙ get_or-column_rows columns height (get_or places k 0) (inside k 0 lt) ∙ sym (row_at-chosen columns places k lt)))

pub fields-chosen : (columns : List Cells) (places : List ℕ) → map field_of (chosen_columns columns places) ≡ map field_of columns
fields-chosen [] places = refl
fields-chosen (column ∷ columns) places = ap (λ l. field_of column ∷ l) (fields-chosen columns places)

-- choosing in each column keeps the fields and chooses rows
table_of-chosen : (columns : List Cells) (height : ℕ) (places : List ℕ) → All (λ i. i < height) places → table_of (chosen_columns columns places) (length places) ≡ record { schema = map field_of columns; rows = chosen_rows (column_rows columns height) places }
table_of-chosen columns height places inside = rw (fields-chosen, column_rows-chosen columns height places inside) refl

-- the chosen columns are of one height
pub even-chosen : (columns : List Cells) (places : List ℕ) → AllOfHeight (length places) (chosen_columns columns places)
even-chosen columns places k d lt = rw (get_or-map (chosen_column places) columns k d d (rw length-map at lt)) (length-map places _)

-- the same of the frame that the columns are seen as
pub table_taken : (columns : List Cells) (height : ℕ) (places : List ℕ) {table : Table} {items : List Cells} → table_of columns height ≡ table → All (λ i. i < length table.rows) places → items ≡ chosen_columns columns places → table_of items (length places) ≡ record { schema = table.schema; rows = chosen_rows table.rows places }
table_taken columns height places {table = table} v inside e =
    let Claim : Table → Type 0 = λ t. All (λ i. i < length t.rows) places → table_of (chosen_columns columns places) (length places) ≡ record { schema = t.schema; rows = chosen_rows t.rows places }
    in rw e (subst Claim v (λ all. table_of-chosen columns height places (λ k d lt. rw length-column_rows at (all k d lt))) inside)

-- ---- the columns of a frame

pub map_map : {A B C : Type 0} (f : B → C) (g : A → B) (xs : List A) → map f (map g xs) ≡ map (λ x. f (g x)) xs
map_map f g [] = refl
map_map f g (x ∷ xs) = ap (λ l. f (g x) ∷ l) (map_map f g xs)

pub map_same : {A B : Type 0} (f g : A → B) (xs : List A) → ((x : A) → f x ≡ g x) → map f xs ≡ map g xs
map_same f g [] h = refl
map_same f g (x ∷ xs) h = ap (λ y. y ∷ map f xs) (h x) ∙ ap (λ l. g x ∷ l) (map_same f g xs h)

-- the cells of the rows in one column are those of the column
pub cells_of_rows : (columns : List Cells) (height i : ℕ) (column : Cells) → AllOfHeight height columns → i < length columns → get_or columns i column ≡ column → map (cell_of_row i) (column_rows columns height) ≡ column.cells
cells_of_rows columns height i column even within here =
    let long : length column.cells ≡ height = rw here at (even i column within) in
    map_map (cell_of_row i) (row_at columns) (range_with_len 0 height)
    ∙ map_same (λ k. cell_of_row i (row_at columns k)) (cell_at column.cells) (range_with_len 0 height) (λ k. get_or-map (cell_in k) columns i column cell.Null within ∙ ap (cell_in k) here)
    ∙ sym (fill_by_all (cell_at column.cells) column.cells height cell.Null long (λ k _. refl))

columns_from-rows : (all : List Cells) (height : ℕ) (i : ℕ) (rest : List Cells) → AllOfHeight height all → drop i all ≡ rest → columns_from i (map field_of rest) (column_rows all height) ≡ rest
columns_from-rows all height i [] even e = refl
columns_from-rows all height i (column ∷ rest) even e =
    let within : i < length all = omega (arith, ap length e, length-drop i all) in
    let at : i ≡ i + 0 = omega arith in
    let here : get_or all i column ≡ column = ap (λ k. get_or all k column) at ∙ sym (get_or-drop i all 0 column) ∙ ap (λ l. get_or l 0 column) e in
    let later : drop (i + 1) all ≡ rest = sym (drop-drop 1 i all) ∙ ap (drop 1) e in
    ap (λ cells. record { name = column.name; dtype = column.dtype; cells = cells } ∷ columns_from (i + 1) (map field_of rest) (column_rows all height)) (cells_of_rows all height i column even within here)
    ∙ ap (λ l. column ∷ l) (columns_from-rows all height (i + 1) rest even later)

-- the columns of a frame that was made of columns are these
pub columns_of-table : (columns : List Cells) (height : ℕ) {table : Table} → table_of columns height ≡ table → AllOfHeight height columns → columns ≡ columns_of table
columns_of-table columns height v even = sym (columns_from-rows columns height 0 columns even refl) ∙ ap columns_of v

-- ---- heights

even_all : (height : ℕ) (columns : List Cells) → other_height height columns ≡ None → AllOfHeight height columns
even_all height [] h = let Even : Cells → Type 0 = λ c. length c.cells ≡ height in All-nil Even
even_all height (column ∷ columns) h =
    let Even : Cells → Type 0 = λ c. length c.cells ≡ height in
    let split : (b : Bool) → (length column.cells == height) ≡ b → cond b (other_height height columns) (Some (length column.cells)) ≡ None → AllOfHeight height (column ∷ columns) = elim [
      | true ↦ λ e rest. All-cons Even column columns ((Decides-eqb (length column.cells) height).0 e) (even_all height columns rest)
      | false ↦ λ e none. cc
    ] in split (length column.cells == height) refl h

pub even_columns : (height : ℕ) (columns : List Cells) → None ≡ other_height height columns → AllOfHeight height columns
even_columns height columns h = even_all height columns (sym h)

pub even_first : (columns : List Cells) (height : ℕ) → height ≡ height_of columns → None ≡ other_height height columns → AllOfHeight (height_of columns) columns
even_first columns height e h = rw e at (even_all height columns (sym h))

-- what the methods of a frame use
pub ruleset table_rules = (length-column_rows, slice_get-column_rows, fields-chosen, column_rows-chosen, columns_of-table, even_columns, even_first)

-- the frame of chosen columns is a frame
pub good_taken : {schema copy : List Field} (columns items : List Cells) (places : List ℕ) → schema ≡ map field_of columns → IsSchema schema → copy ≡ schema → items ≡ chosen_columns columns places → (copy ≡ map field_of items) × IsSchema copy × AllOfHeight (length places) items
good_taken columns items places same good again e =
    (again ∙ same ∙ sym (fields-chosen columns places) ∙ sym (ap (map field_of) e), rw again good, rw e (even-chosen columns places))

-- the row of a frame is that of its columns
pub row_of_frame : (columns : List Cells) (height i : ℕ) {table : Table} → table_of columns height ≡ table → i < length table.rows → (r : Result Row AllocError) → IfOk r (λ row. row ≡ row_at columns i) → IfOk r (λ row. slice_get table.rows i ≡ Some row)
row_of_frame columns height i {table = table} v lt (Err e) h = tt
row_of_frame columns height i {table = table} v lt (Ok row) h =
    let Claim : Table → Type 0 = λ t. i < length t.rows → slice_get t.rows i ≡ Some row in
    subst Claim v (λ below. slice_get-column_rows columns height i (rw length-column_rows at below) ∙ ap Some (sym h)) lt
