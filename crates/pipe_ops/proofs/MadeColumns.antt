-- Columns that were made for one schema are a frame, seen row by row.
use Rattle.std.proofs.Common.{◌≡◌, ℕ, zero, suc, ◌<◌, true, List, [], ◌∷◌, None, length, map, get_or, refl, ap, sym, ◌∙◌, arith, ◌==◌}
use Rattle.std.proofs.lemmas.Bool.Decides.{Decides-eqb}
use Rattle.std.proofs.lemmas.List.{length-map, get_or-map}
use Rattle.std.proofs.lemmas.List.FromFn.{fill_by_all}
use Rattle.pipe_column.specs.Series.{Cells, cell_at}
use Rattle.pipe_schema.specs.Schema.{IsSchema}
use Rattle.pipe_column.specs.Columns.{AllOfHeight, field_of, cell_in, row_at, column_rows, height_of, other_height}
use Rattle.pipe_frame.specs.Frame.{table_of, frame_fault, else_fault, differing}
use Rattle.pipe_schema.specs.declared.any_value.AnyValue.{AnyValue}
use Rattle.pipe_schema.specs.declared.any_value.AnyValue.TheVariants as cell
use Rattle.pipe_schema.specs.declared.field.Field.{Field}
use Rattle.pipe_frame.proofs.Tables.{map_map, map_same}

-- columns of one height do not differ
none-other : (height : ℕ) (columns : List Cells) → AllOfHeight height columns → other_height height columns ≡ None
none-other height [] even = refl
none-other height (column ∷ columns) even =
    let here = even 0 column (omega arith) in
    let same : (length column.cells == height) ≡ true = (Decides-eqb (length column.cells) height).1 here in
    rw same (none-other height columns (λ k d lt. even (suc k) d (omega arith)))

-- columns of one height with distinct names have no fault
pub no_fault : (columns : List Cells) → IsSchema (map field_of columns) → AllOfHeight (height_of columns) columns → frame_fault columns ≡ None
no_fault columns good even =
    ap (λ e. else_fault e (differing (height_of columns) (other_height (height_of columns) columns))) good
    ∙ ap (differing (height_of columns)) (none-other (height_of columns) columns even)

-- columns that have, for each of some things, its field and the values of it at some rows, of whatever kind
module _ {A X : Type 0} (none : X) (made : A → Cells) (field : A → Field) (value : X → A → AnyValue) (rows : List X)
    (fields : (x : A) → field_of (made x) ≡ field x) (cells : (x : A) → (made x).cells ≡ map (λ row. value row x) rows) where
  made-length : (x : A) → length (made x).cells ≡ length rows
  made-length x = ap length (cells x) ∙ length-map rows (λ row. value row x)

  pub made-even : (xs : List A) → AllOfHeight (length rows) (map made xs)
  made-even [] k d lt = absurd (let no : k < 0 = lt in omega arith)
  made-even (x ∷ xs) zero d lt = made-length x
  made-even (x ∷ xs) (suc k) d lt = made-even xs k d (omega arith)

  pub made-height : (xs : List A) → 0 < length xs → height_of (map made xs) ≡ length rows
  made-height [] some = absurd (omega arith)
  made-height (x ∷ xs) some = made-length x

  pub made-fields : (xs : List A) → map field_of (map made xs) ≡ map field xs
  made-fields xs = map_map field_of made xs ∙ map_same (λ x. field_of (made x)) field xs fields

  made-row : (xs : List A) (k : ℕ) → k < length rows → row_at (map made xs) k ≡ map (value (get_or rows k none)) xs
  made-row xs k lt =
      map_map (cell_in k) made xs
      ∙ map_same (λ x. cell_in k (made x)) (value (get_or rows k none)) xs
      (λ x. ap (λ l. cell_at l k) (cells x) ∙ get_or-map (λ row. value row x) rows k none cell.Null lt)

  pub made-rows : (xs : List A) → column_rows (map made xs) (length rows) ≡ map (λ row. map (value row) xs) rows
  made-rows xs =
      sym (fill_by_all (row_at (map made xs)) (map (λ row. map (value row) xs) rows) (length rows) [] (length-map rows _)
      (λ k lt. get_or-map (λ row. map (value row) xs) rows k none [] lt ∙ sym (made-row xs k lt)))

  -- the frame of the columns
  pub made-table : (xs : List A) → 0 < length xs → table_of (map made xs) (height_of (map made xs)) ≡ record { schema = map field xs; rows = map (λ row. map (value row) xs) rows }
  made-table xs some =
      ap (table_of (map made xs)) (made-height xs some)
      ∙ ap (λ s. record { schema = s; rows = column_rows (map made xs) (length rows) }) (made-fields xs)
      ∙ ap (λ r. record { schema = map field xs; rows = r }) (made-rows xs)
