-- Rows that are taken back from bytes, and put into columns.
use Rattle.std.proofs.Common.{◌≡◌, ℕ, zero, suc, ◌+◌, ◌<◌, ◌≤◌, List, [], ◌∷◌, ◌++◌, length, get_or, set, take, drop, map, refl, ap, sym, ◌∙◌, subst, arith, append_assoc}
use borrow.Author.Count.{below_more}
use Rattle.std.proofs.lemmas.List.{append-nil, take_all, drop-drop, length-append, length-drop, get_or_append_left, length-map}
use Rattle.std.proofs.Math.ListN.{drop_of_length-le}
use Rattle.std.proofs.Math.Seq.{get_or-append_seam}
use Rattle.pipe_column.specs.Columns.{AllOfHeight, field_of, row_at}
use Rattle.pipe_column.specs.Series.{Cells, cell_at}
use Rattle.pipe_schema.specs.Rows.{Row}
use Rattle.pipe_schema.specs.declared.any_value.AnyValue.{AnyValue}
use Rattle.pipe_schema.specs.declared.any_value.AnyValue.TheVariants as cell
use Rattle.pipe_schema.specs.declared.data_type.DataType.{DataType}
use Rattle.pipe_rows.specs.declared.sort_field.SortField.{SortField}
use Rattle.pipe_schema.specs.declared.field.Field.{Field}
use Rattle.pipe_rows.specs.Encoded.{Encoded}
use Rattle.pipe_rows.specs.SortOrder.{key_cmp}
use Rattle.pipe_rows.specs.Equality.{IsCell, IsRow, dtype_of, dtypes_of}
use Rattle.pipe_rows.specs.Ordered.{ordered_cell, ordered_row}
use Rattle.pipe_rows.specs.Decoding.{Encodes, IsEncoding, IsFirstFault, StartsWithCell, TakesCell, HoldsRows, encoding_at, unnamed_field, empty_column, pushed_row}
use Rattle.pipe_rows.proofs.Decided.{decided_apart}
use Rattle.pipe_rows.proofs.OrderedLaw.{cell_decided}

-- ---- cells in turn

start_of_row : (f : SortField) (fs : List SortField) (t : DataType) (ts : List DataType) (row : Row) (bytes : List ℕ) → IsRow (t ∷ ts) row → ordered_row (f ∷ fs) row ≡ bytes → StartsWithCell f t bytes
start_of_row f fs t ts [] bytes h e = absurd h
start_of_row f fs t ts (x ∷ row) bytes h e = record { value = x; more = ordered_row fs row; fits = h.0; is = e }

-- an encoding starts with a cell
pub starts_with_cell : (f : SortField) (fs : List SortField) (t : DataType) (ts : List DataType) (bytes : List ℕ) → IsEncoding (f ∷ fs) (t ∷ ts) bytes → StartsWithCell f t bytes
starts_with_cell f fs t ts bytes h = start_of_row f fs t ts h.row bytes h.encodes.0 h.encodes.1

rest_of_row : (f : SortField) (fs : List SortField) (t : DataType) (ts : List DataType) (row : Row) (bytes : List ℕ) (value : AnyValue) (used : ℕ) → TakesCell f t bytes value used → IsRow (t ∷ ts) row → ordered_row (f ∷ fs) row ≡ bytes → IsEncoding fs ts (drop used bytes)
rest_of_row f fs t ts [] bytes value used taken h e = absurd h
rest_of_row f fs t ts (x ∷ row) bytes value used taken h e =
    record {
      row = row;
      encodes = (h.1, (decided_apart (key_cmp f.descending f.nulls_last x value) (ordered_cell f.descending f.nulls_last x) (ordered_cell f.descending f.nulls_last value) (ordered_row fs row) (drop used bytes) (cell_decided f.descending f.nulls_last t x value h.0 taken.fits) (e ∙ sym taken.is)).1);
    }

-- what is left of an encoding after a cell was taken is one of the others
pub encoding_rest : (f : SortField) (fs : List SortField) (t : DataType) (ts : List DataType) (bytes : List ℕ) (value : AnyValue) (used : ℕ) → TakesCell f t bytes value used → IsEncoding (f ∷ fs) (t ∷ ts) bytes → IsEncoding fs ts (drop used bytes)
encoding_rest f fs t ts bytes value used taken h = rest_of_row f fs t ts h.row bytes value used taken h.encodes.0 h.encodes.1

-- a cell before an encoding of the others
pub encoding_more : (f : SortField) (fs : List SortField) (t : DataType) (ts : List DataType) (bytes : List ℕ) (value : AnyValue) (used : ℕ) (row : Row) → TakesCell f t bytes value used → Encodes fs ts row (drop used bytes) → Encodes (f ∷ fs) (t ∷ ts) (value ∷ row) bytes
encoding_more f fs t ts bytes value used row taken h = ((taken.fits, h.0), ap (λ l. ordered_cell f.descending f.nulls_last value ++ l) h.1 ∙ taken.is)

-- ---- one more row

-- the types of the columns stay
pub fields-pushed : (columns : List Cells) (row : Row) → IsRow (dtypes_of columns) row → map field_of (pushed_row columns row) ≡ map field_of columns
fields-pushed [] row h = refl
fields-pushed (column ∷ columns) [] h = absurd h
fields-pushed (column ∷ columns) (x ∷ row) h = ap (λ l. field_of column ∷ l) (fields-pushed columns row h.1)

height_at : (n : ℕ) (columns : List Cells) (row : Row) → IsRow (dtypes_of columns) row → AllOfHeight n columns → (k : ℕ) (d : Cells) → k < length (pushed_row columns row) → length (get_or (pushed_row columns row) k d).cells ≡ n + 1
height_at n [] row h even k d lt = absurd (omega arith)
height_at n (column ∷ columns) [] h even k d lt = absurd h
height_at n (column ∷ columns) (x ∷ row) h even zero d lt = let here : length column.cells ≡ n = even 0 d (omega arith) in omega (arith, length-append column.cells (x ∷ []))
height_at n (column ∷ columns) (x ∷ row) h even (suc k) d lt = height_at n columns row h.1 (λ j e below. even (suc j) e (omega arith)) k d (omega arith)

-- all columns grow by one
pub height-pushed : (n : ℕ) (columns : List Cells) (row : Row) → IsRow (dtypes_of columns) row → AllOfHeight n columns → AllOfHeight (n + 1) (pushed_row columns row)
height-pushed n columns row h even = height_at n columns row h even

-- a row before it
pub before-pushed : (n i : ℕ) (columns : List Cells) (row : Row) → IsRow (dtypes_of columns) row → AllOfHeight n columns → i < n → row_at (pushed_row columns row) i ≡ row_at columns i
before-pushed n i [] row h even lt = refl
before-pushed n i (column ∷ columns) [] h even lt = absurd h
before-pushed n i (column ∷ columns) (x ∷ row) h even lt =
    let long : length column.cells ≡ n = even 0 column (omega arith) in
    let here : cell_at (column.cells ++ x ∷ []) i ≡ cell_at column.cells i = get_or_append_left column.cells (x ∷ []) cell.Null i (omega arith) in
    ap (λ c. c ∷ row_at (pushed_row columns row) i) here ∙ ap (λ l. cell_at column.cells i ∷ l) (before-pushed n i columns row h.1 (λ j e below. even (suc j) e (omega arith)) lt)

-- and the row itself
pub last-pushed : (n : ℕ) (columns : List Cells) (row : Row) → IsRow (dtypes_of columns) row → AllOfHeight n columns → row_at (pushed_row columns row) n ≡ row
last-pushed n [] [] h even = refl
last-pushed n [] (x ∷ row) h even = absurd h
last-pushed n (column ∷ columns) [] h even = absurd h
last-pushed n (column ∷ columns) (x ∷ row) h even =
    let long : length column.cells ≡ n = even 0 column (omega arith) in
    let here : cell_at (column.cells ++ x ∷ []) n ≡ x = ap (cell_at (column.cells ++ x ∷ [])) (sym long) ∙ get_or-append_seam column.cells x [] cell.Null in
    ap (λ c. c ∷ row_at (pushed_row columns row) n) here ∙ ap (λ l. x ∷ l) (last-pushed n columns row h.1 (λ j e below. even (suc j) e (omega arith)))

-- the last cell that is left goes to the last of the columns that are left
pub pushed-last : (columns : List Cells) (row : Row) (x : AnyValue) (last d : Cells) (n : ℕ) → n ≡ length row → n < length columns → last ≡ record (get_or columns n d) { cells = (get_or columns n d).cells ++ x ∷ [] } → pushed_row (take (suc n) columns) (row ++ x ∷ []) ++ drop (suc n) columns ≡ pushed_row (take n (set columns n last)) row ++ drop n (set columns n last)
pushed-last [] row x last d n e lt same = absurd (omega arith)
pushed-last (column ∷ columns) [] x last d zero e lt same = ap (λ c. c ∷ columns) (sym same)
pushed-last (column ∷ columns) [] x last d (suc n) e lt same = absurd (omega arith)
pushed-last (column ∷ columns) (y ∷ row) x last d zero e lt same = absurd (omega arith)
pushed-last (column ∷ columns) (y ∷ row) x last d (suc n) e lt same = ap (λ l. record column { cells = column.cells ++ y ∷ [] } ∷ l) (pushed-last columns row x last d n (omega arith) (omega arith) same)

-- ---- a row that is being taken

module _ (fields : List SortField) (dtypes : List DataType) (bytes : List ℕ) (items : Row) (k at : ℕ) (f : SortField) (t : DataType)
    (df : drop k fields ≡ f ∷ drop (suc k) fields) (dt : drop k dtypes ≡ t ∷ drop (suc k) dtypes)
    (whole : IsEncoding fields dtypes bytes → IsEncoding (drop k fields) (drop k dtypes) (drop at bytes)) where
  left_over : IsEncoding fields dtypes bytes → IsEncoding (f ∷ drop (suc k) fields) (t ∷ drop (suc k) dtypes) (drop at bytes)
  left_over h = rw (df, dt) at (whole h)

  -- where no cell starts, the bytes are no encoding
  pub no_cell : (StartsWithCell f t (drop at bytes) → ⊥) → IsEncoding fields dtypes bytes → ⊥
  no_cell none h = none (starts_with_cell f (drop (suc k) fields) t (drop (suc k) dtypes) (drop at bytes) (left_over h))

  module _ (value : AnyValue) (used : ℕ) (taken : TakesCell f t (drop at bytes) value used) where
    pub whole_after : IsEncoding fields dtypes bytes → IsEncoding (drop (suc k) fields) (drop (suc k) dtypes) (drop (at + used) bytes)
    whole_after h = rw (← drop-drop used at bytes) (encoding_rest f (drop (suc k) fields) t (drop (suc k) dtypes) (drop at bytes) value used taken (left_over h))

    pub taken_after : ((more : Row) → Encodes (drop k fields) (drop k dtypes) more (drop at bytes) → Encodes fields dtypes (items ++ more) bytes) → (more : Row) → Encodes (drop (suc k) fields) (drop (suc k) dtypes) more (drop (at + used) bytes) → Encodes fields dtypes ((items ++ value ∷ []) ++ more) bytes
    taken_after so more h =
        let rest : Encodes (drop (suc k) fields) (drop (suc k) dtypes) more (drop used (drop at bytes)) = rw (drop-drop used at bytes) h in
        let here : Encodes (drop k fields) (drop k dtypes) (value ∷ more) (drop at bytes) = rw (df, dt) (encoding_more f (drop (suc k) fields) t (drop (suc k) dtypes) (drop at bytes) value used more taken rest) in
        rw (append_assoc items (value ∷ []) more) (so (value ∷ more) here)

    pub within_after : at ≤ length bytes → at + used ≤ length bytes
    within_after le = let below = taken.within in omega (arith, length-drop at bytes)

-- a row whose cells are all taken
pub row_done : (fields : List SortField) (dtypes : List DataType) (bytes : List ℕ) (items : Row) (k at : ℕ) → length fields ≤ k → length dtypes ≤ k → length bytes ≤ at → ((more : Row) → Encodes (drop k fields) (drop k dtypes) more (drop at bytes) → Encodes fields dtypes (items ++ more) bytes) → Encodes fields dtypes items bytes
row_done fields dtypes bytes items k at f t b so =
    let none : Encodes (drop k fields) (drop k dtypes) [] (drop at bytes) = rw (drop_of_length-le fields f, drop_of_length-le dtypes t, drop_of_length-le bytes b) (tt, refl) in
    let E : Row → Type 0 = λ r. Encodes fields dtypes r bytes in subst E (append-nil items) (so [] none)

-- bytes are left though all cells are taken
pub bytes_left : (fields : List SortField) (dtypes : List DataType) (bytes : List ℕ) (k at : ℕ) → length fields ≤ k → at < length bytes → (IsEncoding fields dtypes bytes → IsEncoding (drop k fields) (drop k dtypes) (drop at bytes)) → IsEncoding fields dtypes bytes → ⊥
bytes_left fields dtypes bytes k at f lt whole h =
    let left = whole h in
    let nothing : [] ≡ drop at bytes = ap (λ fs. ordered_row fs left.row) (sym (drop_of_length-le fields f)) ∙ left.encodes.1 in
    absurd (omega (arith, ap length nothing, length-drop at bytes))

-- ---- a row that is put into columns

take_set : {X : Type 0} (n : ℕ) (xs : List X) (x : X) → take n (set xs n x) ≡ take n xs
take_set zero [] x = refl
take_set (suc n) [] x = refl
take_set zero (y ∷ xs) x = refl
take_set (suc n) (y ∷ xs) x = ap (λ l. y ∷ l) (take_set n xs x)

-- the last cell fits the last column that is left
pub last_fits : (columns : List Cells) (row : Row) (x : AnyValue) (d : Cells) → IsRow (dtypes_of (take (length (row ++ x ∷ [])) columns)) (row ++ x ∷ []) → (length row < length columns) × IsCell (get_or columns (length row) d).dtype x
last_fits [] [] x d h = absurd h
last_fits [] (y ∷ row) x d h = absurd h
last_fits (column ∷ columns) [] x d h = (omega arith, h.0)
last_fits (column ∷ columns) (y ∷ row) x d h = let both = last_fits columns row x d h.1 in ((let below = both.0 in omega arith), both.1)

-- there is a column for the last cell
pub last_below : (columns : List Cells) (row : Row) (x : AnyValue) → IsRow (dtypes_of (take (length (row ++ x ∷ [])) columns)) (row ++ x ∷ []) → length row < length columns
last_below [] [] x h = absurd h
last_below [] (y ∷ row) x h = absurd h
last_below (column ∷ columns) [] x h = omega arith
last_below (column ∷ columns) (y ∷ row) x h = let below = last_below columns row x h.1 in omega arith

front_fits : (columns : List Cells) (row : Row) (x : AnyValue) → IsRow (dtypes_of (take (length (row ++ x ∷ [])) columns)) (row ++ x ∷ []) → IsRow (dtypes_of (take (length row) columns)) row
front_fits columns [] x h = tt
front_fits [] (y ∷ row) x h = absurd h
front_fits (column ∷ columns) (y ∷ row) x h = (h.0, front_fits columns row x h.1)

pub others_fit : (columns : List Cells) (row : Row) (x : AnyValue) (last : Cells) → IsRow (dtypes_of (take (length (row ++ x ∷ [])) columns)) (row ++ x ∷ []) → IsRow (dtypes_of (take (length row) (set columns (length row) last))) row
others_fit columns row x last h = rw (take_set (length row) columns last) (front_fits columns row x h)

length-row : (dtypes : List DataType) (row : Row) → IsRow dtypes row → length row ≡ length dtypes
length-row [] [] h = refl
length-row [] (_ ∷ _) h = absurd h
length-row (_ ∷ _) [] h = absurd h
length-row (t ∷ dtypes) (x ∷ row) h = ap suc (length-row dtypes row h.1)

-- a row has a cell for each column
pub row_wide : (columns : List Cells) (row : Row) → IsRow (dtypes_of columns) row → length row ≡ length columns
row_wide columns row h = length-row (dtypes_of columns) row h ∙ length-map columns dtype_of

-- ---- rows in turn

dtypes_typed : (columns : List Cells) (dtypes : List DataType) → map field_of columns ≡ map unnamed_field dtypes → dtypes_of columns ≡ dtypes
dtypes_typed [] [] e = refl
dtypes_typed [] (_ ∷ _) e = cc
dtypes_typed (_ ∷ _) [] e = cc
dtypes_typed (column ∷ columns) (t ∷ dtypes) e =
    let first : field_of column ≡ unnamed_field t = ap (λ l. get_or l 0 (unnamed_field t)) e in
    ap (λ x. x ∷ dtypes_of columns) (ap (λ (f : Field). f.dtype) first) ∙ ap (λ l. t ∷ l) (dtypes_typed columns dtypes (ap (drop 1) e))

fields-empty : (dtypes : List DataType) → map field_of (map empty_column dtypes) ≡ map unnamed_field dtypes
fields-empty [] = refl
fields-empty (t ∷ dtypes) = ap (λ l. unnamed_field t ∷ l) (fields-empty dtypes)

height-empty : (dtypes : List DataType) (k : ℕ) (d : Cells) → k < length (map empty_column dtypes) → length (get_or (map empty_column dtypes) k d).cells ≡ 0
height-empty [] k d lt = absurd (omega arith)
height-empty (t ∷ dtypes) zero d lt = refl
height-empty (t ∷ dtypes) (suc k) d lt = height-empty dtypes k d (omega arith)

-- columns without a cell hold no row
pub holds_none : (fields : List SortField) (dtypes : List DataType) (rows : List Encoded) → HoldsRows fields dtypes rows 0 (map empty_column dtypes)
holds_none fields dtypes rows = record { typed = fields-empty dtypes; even = height-empty dtypes; cells = λ i lt. absurd (omega arith) }

-- a row of the types is one of the columns
pub row_of_columns : (fields : List SortField) (dtypes : List DataType) (rows : List Encoded) (n : ℕ) (columns : List Cells) (row : Row) → HoldsRows fields dtypes rows n columns → IsRow dtypes row → IsRow (dtypes_of columns) row
row_of_columns fields dtypes rows n columns row h fits = rw (dtypes_typed columns dtypes h.typed) fits

-- one more row is held
pub holds_more : (fields : List SortField) (dtypes : List DataType) (rows : List Encoded) (n : ℕ) (columns : List Cells) (row : Row) → HoldsRows fields dtypes rows n columns → Encodes fields dtypes row (encoding_at rows n) → HoldsRows fields dtypes rows (n + 1) (pushed_row columns row)
holds_more fields dtypes rows n columns row h last =
    let fits = row_of_columns fields dtypes rows n columns row h last.0 in
    let P : ℕ → Type 0 = λ i. Encodes fields dtypes (row_at (pushed_row columns row) i) (encoding_at rows i) in
    record {
      typed = fields-pushed columns row fits ∙ h.typed;
      even = height-pushed n columns row fits h.even;
      cells = below_more P n
          (λ i lt. (let E : Row → Type 0 = λ r. Encodes fields dtypes r (encoding_at rows i) in subst E (sym (before-pushed n i columns row fits h.even lt)) (h.cells i lt)))
          (let E : Row → Type 0 = λ r. Encodes fields dtypes r (encoding_at rows n) in subst E (sym (last-pushed n columns row fits h.even)) last);
    }

-- the row after those that are held is the first that is no encoding
pub first_fault : (fields : List SortField) (dtypes : List DataType) (rows : List Encoded) (n : ℕ) (columns : List Cells) → HoldsRows fields dtypes rows n columns → n < length rows → (IsEncoding fields dtypes (encoding_at rows n) → ⊥) → IsFirstFault fields dtypes rows n
first_fault fields dtypes rows n columns h lt none = record { within = lt; before = λ k below. record { row = row_at columns k; encodes = h.cells k below }; here = none }

pub length-pushed : (columns : List Cells) (row : Row) → IsRow (dtypes_of columns) row → length (pushed_row columns row) ≡ length columns
length-pushed [] row h = refl
length-pushed (column ∷ columns) [] h = absurd h
length-pushed (column ∷ columns) (x ∷ row) h = ap suc (length-pushed columns row h.1)

-- a slice of a whole vector that is written back
pub written_back : {X : Type 0} (old new : List X) (len : ℕ) → len ≡ length old → length new ≡ length old → take len (new ++ drop (length new) old) ≡ new
written_back old new len e f = ap (λ l. take len (new ++ l)) (drop_of_length-le old (omega arith)) ∙ ap (take len) (append-nil new) ∙ take_all len new (omega arith)
