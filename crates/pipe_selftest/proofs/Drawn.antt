-- Frames of drawn keys.
use Rattle.std.proofs.Common.{◌≡◌, ℕ, suc, ◌+◌, ◌/◌, ◌%◌, ◌^◌, ◌<◌, ◌≤◌, List, [], ◌∷◌, ◌++◌, Option, ℤ, length, map, refl, ap, sym, ◌∙◌, arith, add-one}
use Rattle.std.specs.Prelude.{codes}
use Rattle.std.specs.List.{range_with_len}
use Rattle.std.proofs.lemmas.List.{map-append}
use Rattle.std.proofs.lemmas.List.FromFn.{fill_by_all, get_or-map-range_with_len, length-map-range_with_len, map-range_with_len_more}
use Rattle.std.proofs.lemmas.Nat.{mod_below}
use Rattle.pipe_schema.specs.Cell.{int64_cell}
use Rattle.pipe_column.specs.Columns.{even_rows, field_of, row_at}
use Rattle.pipe_frame.specs.Frame.{Table}
use Rattle.pipe_schema.specs.Rows.{Row}
use Rattle.pipe_column.specs.Series.{Cells, cell_at, named_cells}
use Rattle.pipe_schema.specs.declared.any_value.AnyValue.TheVariants as cell
use Rattle.pipe_schema.specs.declared.data_type.DataType.TheVariants as dtype
use Rattle.pipe_schema.specs.declared.field.Field.{Field}
use Rattle.pipe_selftest.specs.Frames.{columns_from, frame_from, key_at, drawn_key, next, number_at, row_of, state_after}

-- ---- keys

pub few_keys : (rows x : ℕ) → rows < 2 ^ 32 → x % (rows / 2 + 1) < 2 ^ 63
few_keys rows x h = let below : x % (rows / 2 + 1) < rows / 2 + 1 = mod_below x (rows / 2 + 1) (omega arith) in omega (arith, below, h)

pub state_more : (start i state : ℕ) → state ≡ state_after start i → next state ≡ state_after start (i + 1)
state_more start i state e = rw add-one (ap next e)

-- one key more
pub key_more : (start rows i state : ℕ) (keys : List (Option ℤ)) (x : Option ℤ) → map int64_cell keys ≡ map (key_at start rows) (range_with_len 0 i) → state ≡ state_after start i → int64_cell x ≡ drawn_key rows i (next state) → map int64_cell (keys ++ x ∷ []) ≡ map (key_at start rows) (range_with_len 0 (i + 1))
key_more start rows i state keys x h e k =
    let key : int64_cell x ≡ key_at start rows i = k ∙ ap (λ s. drawn_key rows i (next s)) e in
    map-append int64_cell keys (x ∷ [])
    ∙ ap (λ l. l ++ int64_cell x ∷ []) h
    ∙ ap (λ c. map (key_at start rows) (range_with_len 0 i) ++ c ∷ []) key
    ∙ sym (map-range_with_len_more (key_at start rows) 0 i i (omega arith))

pub number_more : (i : ℕ) (numbers : List (Option ℤ)) (x : Option ℤ) → map int64_cell numbers ≡ map number_at (range_with_len 0 i) → int64_cell x ≡ number_at i → map int64_cell (numbers ++ x ∷ []) ≡ map number_at (range_with_len 0 (i + 1))
number_more i numbers x h k =
    map-append int64_cell numbers (x ∷ [])
    ∙ ap (λ l. l ++ int64_cell x ∷ []) h
    ∙ ap (λ c. map number_at (range_with_len 0 i) ++ c ∷ []) k
    ∙ sym (map-range_with_len_more number_at 0 i i (omega arith))

-- ---- frames

height_is : (start rows : ℕ) → length (map (key_at start rows) (range_with_len 0 rows)) ≡ rows
height_is start rows = length-map-range_with_len (key_at start rows) 0 rows

row_is : (start : ℕ) (name : List ℕ) (rows i : ℕ) → i < rows → row_at (columns_from start name rows) i ≡ row_of start rows i
row_is start name rows i lt =
    let key : cell_at (map (key_at start rows) (range_with_len 0 rows)) i ≡ key_at start rows i = get_or-map-range_with_len (key_at start rows) 0 rows i i cell.Null lt (omega arith) in
    let number : cell_at (map number_at (range_with_len 0 rows)) i ≡ number_at i = get_or-map-range_with_len number_at 0 rows i i cell.Null lt (omega arith) in
    ap (λ c. c ∷ cell_at (map number_at (range_with_len 0 rows)) i ∷ []) key ∙ ap (λ c. key_at start rows i ∷ c ∷ []) number

rows_are : (start : ℕ) (name : List ℕ) (rows height : ℕ) → height ≡ rows → map (row_at (columns_from start name rows)) (range_with_len 0 height) ≡ map (row_of start rows) (range_with_len 0 rows)
rows_are start name rows height e =
    let at : ℕ → Row = row_at (columns_from start name rows) in
    rw e (fill_by_all (row_of start rows) (map at (range_with_len 0 rows)) rows [] (length-map-range_with_len at 0 rows) (λ i lt. get_or-map-range_with_len at 0 rows i i [] lt (omega arith) ∙ row_is start name rows i lt))

abbrev made : List Field → List Row → Table
made schema rows = record { schema = schema; rows = rows }

-- the frame of these columns
pub frame_is : (frame : Table) (start : ℕ) (name : List ℕ) (rows : ℕ) (all : List Cells) → all ≡ columns_from start name rows → frame.schema ≡ map field_of all → frame.rows ≡ even_rows all → frame ≡ frame_from start name rows
frame_is frame start name rows all e s r =
    let schema : frame.schema ≡ (frame_from start name rows).schema = s ∙ ap (map field_of) e in
    let lines : frame.rows ≡ (frame_from start name rows).rows = r ∙ ap even_rows e ∙ rows_are start name rows (length (map (key_at start rows) (range_with_len 0 rows))) (height_is start rows) in
    ap (λ s. made s frame.rows) schema ∙ ap (λ l. made (frame_from start name rows).schema l) lines

-- two columns, put behind one another
pub two_columns : (start : ℕ) (name : List ℕ) (rows : ℕ) (none one both : List Cells) (key number : Cells) → none ≡ [] → one ≡ none ++ key ∷ [] → both ≡ one ++ number ∷ [] → key ≡ named_cells (codes "k") dtype.Int64 (map (key_at start rows) (range_with_len 0 rows)) → number ≡ named_cells name dtype.Int64 (map number_at (range_with_len 0 rows)) → both ≡ columns_from start name rows
two_columns start name rows none one both key number a b c d e = rw (c, b, a, d, e) refl
