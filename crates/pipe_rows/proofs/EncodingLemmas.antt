-- Rows whose columns are each under an encoding.
use Rattle.std.proofs.Common.{◌≡◌, ℕ, suc, ◌+◌, ◌<◌, Bool, List, [], ◌∷◌, ◌++◌, length, get_or, drop, map, refl, ap, sym, ◌∙◌, arith, length-append}
use Rattle.std.specs.Prelude.{◌||◌, replicate, IfOk, Result, Ok, Err}
use Rattle.std.specs.List.{range_with_len}
use Rattle.std.proofs.Math.Bool.{or_assoc}
use Rattle.std.proofs.Math.Seq.{drop-cons}
use Rattle.pipe_column.specs.Columns.{row_at, cell_in, column_rows}
use Rattle.pipe_schema.specs.Rows.{Row}
use Rattle.pipe_column.specs.Series.{Cells}
use Rattle.pipe_rows.specs.Equality.{equality_cell, equality_row, has_null_cell}
use Rattle.pipe_rows.specs.Encoded.{Encoded, equality_encoded}
use Rattle.pipe_rows.specs.Ordered.{ordered_cell, ordered_row, ordered_encoded}
use Rattle.pipe_rows.specs.Encodings.{encoded_bytes, encoded_row, cell_bytes_at, null_at_place}
use Rattle.pipe_rows.specs.declared.sort_field.SortField.{SortField}
use Rattle.pipe_rows.specs.declared.encoding.Encoding.{Encoding}
use Rattle.pipe_rows.specs.declared.encoding.Encoding.TheVariants as encoding

-- all columns under the equality encoding
bytes_for_equality : (columns : List Cells) (i : ℕ) → encoded_bytes (replicate (length columns) encoding.Equality) (row_at columns i) ≡ equality_row (row_at columns i)
bytes_for_equality [] i = refl
bytes_for_equality (column ∷ columns) i = ap (λ l. equality_cell (cell_in i column) ++ l) (bytes_for_equality columns i)

-- each column under the ordered encoding of its field
bytes_for_order : (fields : List SortField) (row : Row) → encoded_bytes (map encoding.Ordered fields) row ≡ ordered_row fields row
bytes_for_order [] row = refl
bytes_for_order (field ∷ fields) [] = refl
bytes_for_order (field ∷ fields) (x ∷ row) = ap (λ l. ordered_cell field.descending field.nulls_last x ++ l) (bytes_for_order fields row)

same_rows : (f g : Row → Encoded) (columns : List Cells) (places : List ℕ) → ((i : ℕ) → f (row_at columns i) ≡ g (row_at columns i)) → map f (map (row_at columns) places) ≡ map g (map (row_at columns) places)
same_rows f g columns [] e = refl
same_rows f g columns (i ∷ places) e = ap (λ x. x ∷ map f (map (row_at columns) places)) (e i) ∙ ap (λ l. g (row_at columns i) ∷ l) (same_rows f g columns places e)

pub rows_for_equality : (columns : List Cells) (height : ℕ) → map (encoded_row (replicate (length columns) encoding.Equality)) (column_rows columns height) ≡ map equality_encoded (column_rows columns height)
rows_for_equality columns height = same_rows (encoded_row (replicate (length columns) encoding.Equality)) equality_encoded columns (range_with_len 0 height) (λ i. ap (λ l. record { bytes = l; has_null = has_null_cell (row_at columns i) }) (bytes_for_equality columns i))

pub rows_for_order : (fields : List SortField) (columns : List Cells) (height : ℕ) → map (encoded_row (map encoding.Ordered fields)) (column_rows columns height) ≡ map (ordered_encoded fields) (column_rows columns height)
rows_for_order fields columns height = same_rows (encoded_row (map encoding.Ordered fields)) (ordered_encoded fields) columns (range_with_len 0 height) (λ i. ap (λ l. record { bytes = l; has_null = has_null_cell (row_at columns i) }) (bytes_for_order fields (row_at columns i)))

-- what an answer equals, along an equation
pub IfOk-along : {T E : Type 0} (result : Result T E) {a b : T} → a ≡ b → IfOk result (λ x. x ≡ a) → IfOk result (λ x. x ≡ b)
IfOk-along (Ok x) e h = h ∙ e
IfOk-along (Err _) e h = tt

-- ---- one column more

-- the rows of the columns that are left are the first of them before the others
pub bytes_left_over : (encodings : List Encoding) (columns : List Cells) (k : ℕ) (e : Encoding) (column : Cells) (i : ℕ) → k < length encodings → k < length columns → column ≡ get_or columns k column → encoded_bytes (drop k encodings) (row_at (drop k columns) i) ≡ cell_bytes_at (get_or encodings k e) column.cells i ++ encoded_bytes (drop (k + 1) encodings) (row_at (drop (k + 1) columns) i)
bytes_left_over encodings columns k e column i he hc is =
    let next : suc k ≡ k + 1 = omega arith in
    let first : drop k columns ≡ column ∷ drop (k + 1) columns = drop-cons columns k column hc ∙ ap (λ c. c ∷ drop (suc k) columns) (sym is) ∙ ap (λ n. column ∷ drop n columns) next in
    let its : drop k encodings ≡ get_or encodings k e ∷ drop (k + 1) encodings = drop-cons encodings k e he ∙ ap (λ n. get_or encodings k e ∷ drop n encodings) next in
    ap (λ l. encoded_bytes l (row_at (drop k columns) i)) its ∙ ap (λ l. encoded_bytes (get_or encodings k e ∷ drop (k + 1) encodings) (row_at l i)) first

pub nulls_left_over : (columns : List Cells) (k : ℕ) (column : Cells) (i : ℕ) → k < length columns → column ≡ get_or columns k column → has_null_cell (row_at (drop k columns) i) ≡ null_at_place column.cells i || has_null_cell (row_at (drop (k + 1) columns) i)
nulls_left_over columns k column i hc is =
    let next : suc k ≡ k + 1 = omega arith in
    let first : drop k columns ≡ column ∷ drop (k + 1) columns = drop-cons columns k column hc ∙ ap (λ c. c ∷ drop (suc k) columns) (sym is) ∙ ap (λ n. column ∷ drop n columns) next in
    ap (λ l. has_null_cell (row_at l i)) first

-- a width with what is left, one column later
pub width_further : (before after whole : ℕ) (now rest : List ℕ) (left : List ℕ) → left ≡ now ++ rest → after ≡ before + length now → before + length left ≡ whole → after + length rest ≡ whole
width_further before after whole now rest left split made so = omega (arith, ap length split, length-append now rest)

-- a mark with what is left, one column later
pub mark_further : (before after whole now rest left : Bool) → left ≡ now || rest → after ≡ before || now → before || left ≡ whole → after || rest ≡ whole
mark_further before after whole now rest left split made so = ap (λ b. b || rest) made ∙ or_assoc before now rest ∙ ap (λ b. before || b) (sym split) ∙ so
