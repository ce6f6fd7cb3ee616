-- Rows of one width in one buffer, filled column by column.
use Rattle.std.proofs.Common.{◌≡◌, ℕ, zero, suc, ◌+◌, ◌*◌, ◌-◌, ◌<◌, ◌≤◌, Bool, true, List, [], ◌∷◌, ◌++◌, Option, Some, None, length, get_or, set, take, drop, map, refl, ap, sym, subst, ◌∙◌, arith, append_assoc, Vec}
use borrow.Author.Count.{below_more}
use Rattle.std.specs.Prelude.{◌||◌, false, replicate}
use Rattle.std.specs.Vec.{with_items}
use Rattle.std.proofs.lemmas.List.{append-nil, length-append, length-drop, length-map, drop-drop, get_or-map, ext_get_or, with_items_is}
use Rattle.std.proofs.lemmas.List.FromFn.{get_or-map-range_with_len, length-map-range_with_len}
use Rattle.std.proofs.Math.ListN.{drop_of_length-le}
use Rattle.std.proofs.Math.Seq.{drop-cons}
use Rattle.pipe_schema.specs.Cell.{dtype_of_cell, is_null_cell}
use Rattle.pipe_schema.specs.Sizes.{width_of}
use Rattle.pipe_schema.specs.declared.any_value.AnyValue.{AnyValue}
use Rattle.pipe_schema.specs.declared.data_type.DataType.{DataType}
use Rattle.pipe_column.specs.Columns.{row_at, column_rows, height_of}
use Rattle.pipe_column.specs.Native.{InRange, has_fixed_width}
use Rattle.pipe_column.specs.Series.{Cells, cell_at}
use Rattle.pipe_rows.specs.Dense.{cell_width, row_width, front_of, cells_there, Written, Extended, Filled}
use Rattle.pipe_rows.specs.Encoded.{Encoded, unmarked, marked_rows}
use Rattle.pipe_rows.specs.Encodings.{encoded_cell, encoded_bytes, encoded_row, encoded_rows, cell_bytes_at, row_bytes_at, null_at_place, null_in_row}
use Rattle.pipe_rows.specs.Equality.{IsCell, IsRow, dtypes_of, has_null_cell}
use Rattle.pipe_rows.specs.EvenRows.{even_rows}
use Rattle.pipe_rows.specs.Filling.{patched}
use Rattle.pipe_rows.specs.declared.encoding.Encoding.{Encoding}
use Rattle.pipe_rows.proofs.EncodedLemmas.{marked_rows-none}
use Rattle.pipe_rows.proofs.EncodingLemmas.{bytes_left_over, nulls_left_over}
use Rattle.pipe_rows.proofs.EvenLemmas.{even_at, even_within, length-even_rows}
use Rattle.pipe_rows.proofs.FillingLemmas.{length-patched, range-before, range-behind, range-grown}
use Rattle.pipe_rows.proofs.NativeLemmas.{fixed_not_null, value_is_cell}

-- ---- a write to a part of a buffer

-- a part that is written in place
pub part_written : (xs ys : List ℕ) (a k : ℕ) → length ys ≡ k → take a xs ++ (ys ++ drop k (drop a xs)) ≡ patched xs a ys
part_written xs ys a k e = ap (λ l. take a xs ++ (ys ++ l)) (drop-drop k a xs ∙ ap (λ n. drop (a + n) xs) (sym e))

-- a first byte, and what was written behind it
pub cell_whole : (xs ys : List ℕ) (x k : ℕ) → 0 < length xs → length xs ≤ suc k → take 1 (set xs 0 x) ++ (ys ++ drop k (drop 1 (set xs 0 x))) ≡ x ∷ ys
cell_whole [] ys x k some le = absurd (omega arith)
cell_whole (y ∷ xs) ys x k some le = ap (λ l. x ∷ (ys ++ l)) (drop_of_length-le xs {i = k} (omega arith)) ∙ ap (λ l. x ∷ l) (append-nil ys)

-- ---- the first bytes of rows

-- a part is written to a row behind its first bytes
module _ (width n i offset size : ℕ) (bytes part : List ℕ) (lt : i < n) (long : length bytes ≡ n * width) (fits : offset + size ≤ width) (sized : length part ≡ size) where
  within : i * width + offset + length part ≤ length bytes
  within = omega (arith, even_within width n i lt, long, fits, sized)

  pub length-written : length (patched bytes (i * width + offset) part) ≡ length bytes
  length-written = length-patched bytes (i * width + offset) part within

  pub front_here : front_of width (offset + size) (patched bytes (i * width + offset) part) i ≡ front_of width offset bytes i ++ part
  front_here =
      let wide : i * width + offset + length part - i * width ≡ offset + size = omega (arith, sized) in
      let old : i * width + offset - i * width ≡ offset = omega arith in
      ap (λ q. take q (drop (i * width) (patched bytes (i * width + offset) part))) (sym wide)
      ∙ range-grown bytes (i * width + offset) part (i * width) (omega (arith, within)) (omega arith)
      ∙ ap (λ q. take q (drop (i * width) bytes) ++ part) old

  pub front_before : (j q : ℕ) → j < i → q ≤ width → front_of width q (patched bytes (i * width + offset) part) j ≡ front_of width q bytes j
  front_before j q below small =
      let wide : j * width + q - j * width ≡ q = omega arith in
      ap (λ p. take p (drop (j * width) (patched bytes (i * width + offset) part))) (sym wide)
      ∙ range-before bytes (i * width + offset) part (j * width) (j * width + q) (omega (arith, within)) (omega arith) (omega (arith, even_within width i j below, small))
      ∙ ap (λ p. take p (drop (j * width) bytes)) wide

  pub front_behind : (j q : ℕ) → i < j → front_of width q (patched bytes (i * width + offset) part) j ≡ front_of width q bytes j
  front_behind j q above =
      let wide : j * width + q - j * width ≡ q = omega arith in
      ap (λ p. take p (drop (j * width) (patched bytes (i * width + offset) part))) (sym wide)
      ∙ range-behind bytes (i * width + offset) part (j * width) (j * width + q) (omega (arith, within)) (omega (arith, even_within width j i above, fits, sized))
      ∙ ap (λ p. take p (drop (j * width) bytes)) wide

-- ---- the cells of values that are there

module _ {T : Type 0} (cell : Option T → AnyValue) where
  pub cell_read : (xs : List T) (i : ℕ) (x : T) → i < length xs → x ≡ get_or xs i x → cell_at (cells_there cell xs) i ≡ cell (Some x)
  cell_read [] i x lt is = absurd (omega arith)
  cell_read (y ∷ xs) zero x lt is = ap (λ v. cell (Some v)) (sym is)
  cell_read (y ∷ xs) (suc i) x lt is = cell_read xs i x (omega arith) is

  -- what holds of each value's cell
  cell_is : (P : AnyValue → Type 0) → ((x : T) → P (cell (Some x))) → (xs : List T) (i : ℕ) → i < length xs → P (cell_at (cells_there cell xs) i)
  cell_is P h [] i lt = absurd (omega arith)
  cell_is P h (x ∷ xs) zero lt = h x
  cell_is P h (x ∷ xs) (suc i) lt = cell_is P h xs i (omega arith)

  -- as many cells as values
  pub length-there : (xs : List T) → length (cells_there cell xs) ≡ length xs
  length-there xs = length-map (map Some xs) cell ∙ length-map xs Some

  module _ (e : Encoding) (size width offset : ℕ) (xs : List T) where
    pub written_none : (bytes : List ℕ) → Written cell e size width offset xs 0 bytes bytes
    written_none bytes = record { long = refl; done = λ i lt below. absurd (omega arith); rest = λ i le below. refl; ranged = λ i lt below. absurd (omega arith) }

    pub written_more : (i : ℕ) (x : T) (first before after part : List ℕ) → Written cell e size width offset xs i first before → i < length xs → x ≡ get_or xs i x → length first ≡ length xs * width → offset + size ≤ width → length part ≡ size → part ≡ encoded_cell e (cell (Some x)) → InRange (cell (Some x)) → after ≡ patched before (i * width + offset) part → Written cell e size width offset xs (i + 1) first after
    written_more i x first before after part w lt is room fits sized made range new =
        let whole : length before ≡ length xs * width = w.long ∙ room in
        let read : cell_at (cells_there cell xs) i ≡ cell (Some x) = cell_read xs i x lt is in
        let bytes : part ≡ cell_bytes_at e (cells_there cell xs) i = made ∙ ap (encoded_cell e) (sym read) in
        let here : front_of width (offset + size) after i ≡ front_of width offset first i ++ cell_bytes_at e (cells_there cell xs) i =
        ap (λ l. front_of width (offset + size) l i) new
        ∙ front_here width (length xs) i offset size before part lt whole fits sized
        ∙ ap (λ l. front_of width offset before i ++ l) bytes
        ∙ ap (λ l. l ++ cell_bytes_at e (cells_there cell xs) i) (w.rest i (omega arith) lt) in
        record {
          long = ap length new ∙ length-written width (length xs) i offset size before part lt whole fits sized ∙ w.long;
          done = below_more (λ k. k < length xs → front_of width (offset + size) after k ≡ front_of width offset first k ++ cell_bytes_at e (cells_there cell xs) k) i
              (λ k low below. ap (λ l. front_of width (offset + size) l k) new ∙ front_before width (length xs) i offset size before part lt whole fits sized k (offset + size) low fits ∙ w.done k low below)
              (λ below. here);
          rest = λ k le below. ap (λ l. front_of width offset l k) new ∙ front_behind width (length xs) i offset size before part lt whole fits sized k offset (omega (arith, le)) ∙ w.rest k (omega (arith, le)) below;
          ranged = below_more (λ k. k < length xs → InRange (cell_at (cells_there cell xs) k)) i w.ranged (λ below. let P : AnyValue → Type 0 = λ v. InRange v in subst P (sym read) range);
        }

  -- all values of a column are written
  module _ (t : DataType) (typed : (x : T) → dtype_of_cell (cell (Some x)) ≡ Some t) (fixed : (x : T) → has_fixed_width (cell (Some x)) ≡ true) (xs : List T) (nullables : List (Option T)) (column : Cells) (own : column.dtype ≡ t) (cells : column.cells ≡ map cell nullables) (values : map Some xs ≡ nullables) where
    same : column.cells ≡ cells_there cell xs
    same = cells ∙ ap (map cell) (sym values)

    pub length-column : length column.cells ≡ length xs
    length-column = ap length same ∙ length-there xs

    pub extended : (e : Encoding) (width offset : ℕ) (before after : List ℕ) → Written cell e (1 + width_of t) width offset xs (length xs) before after → Extended e width offset column before after
    extended e width offset before after w =
        let inside : (i : ℕ) → i < length column.cells → i < length xs = λ i lt. omega (arith, lt, length-column) in
        record {
          rows = λ i lt.
              ap (λ d. front_of width (offset + (1 + width_of d)) after i) own
              ∙ w.done i (inside i lt) (inside i lt)
              ∙ ap (λ l. front_of width offset before i ++ cell_bytes_at e l i) (sym same);
          cells = λ i lt.
              let v : AnyValue = cell_at (cells_there cell xs) i in
              rw (own, same) (value_is_cell t v v refl (cell_is (λ x. dtype_of_cell x ≡ Some t) typed xs i (inside i lt)) (w.ranged i (inside i lt) (inside i lt)));
          there = λ i lt.
              ap (λ l. null_at_place l i) same ∙ cell_is (λ x. is_null_cell x ≡ false) (λ x. fixed_not_null (cell (Some x)) (fixed x)) xs i (inside i lt);
        }

-- ---- one column after another

-- the rows as far as the first columns are written
pub record SoFar (encodings : List Encoding) (columns : List Cells) (height width k offset : ℕ) (bytes : List ℕ) : Type 0 where
  pub left : offset + row_width (drop k columns) ≡ width
  pub rows : (i : ℕ) → i < height → front_of width offset bytes i ++ encoded_bytes (drop k encodings) (row_at (drop k columns) i) ≡ encoded_bytes encodings (row_at columns i)
  pub cells : (i : ℕ) → i < height → IsRow (dtypes_of (drop k columns)) (row_at (drop k columns) i) → IsRow (dtypes_of columns) (row_at columns i)
  pub there : (i : ℕ) → i < height → null_in_row columns i ≡ null_in_row (drop k columns) i

module _ (encodings : List Encoding) (columns : List Cells) (height width : ℕ) where
  pub so_far_none : (bytes : List ℕ) → width ≡ row_width columns → SoFar encodings columns height width 0 0 bytes
  so_far_none bytes e =
      let all : row_width (drop 0 columns) ≡ width = sym e in
      record { left = omega (arith, all); rows = λ i lt. refl; cells = λ i lt h. h; there = λ i lt. refl }

  -- the columns that are left, the first apart
  first_left : (k : ℕ) (column : Cells) → k < length columns → column ≡ get_or columns k column → drop k columns ≡ column ∷ drop (k + 1) columns
  first_left k column lt is =
      let next : suc k ≡ k + 1 = omega arith in
      drop-cons columns k column lt ∙ ap (λ c. c ∷ drop (suc k) columns) (sym is) ∙ ap (λ n. column ∷ drop n columns) next

  -- there is room for it
  pub so_far_fits : (k offset : ℕ) (column : Cells) (bytes : List ℕ) → SoFar encodings columns height width k offset bytes → k < length columns → column ≡ get_or columns k column → offset + cell_width column ≤ width
  so_far_fits k offset column bytes s lt is =
      let wide : row_width (drop k columns) ≡ cell_width column + row_width (drop (k + 1) columns) = ap row_width (first_left k column lt is) in
      omega (arith, s.left, wide)

  pub so_far_more : (k offset : ℕ) (e : Encoding) (column : Cells) (before after : List ℕ) → SoFar encodings columns height width k offset before → k < length encodings → k < length columns → column ≡ get_or columns k column → length column.cells ≡ height → Extended (get_or encodings k e) width offset column before after → SoFar encodings columns height width (k + 1) (offset + cell_width column) after
  so_far_more k offset e column before after s within lt is high x =
      let first = first_left k column lt is in
      let wide : row_width (drop k columns) ≡ cell_width column + row_width (drop (k + 1) columns) = ap row_width first in
      let inside : (i : ℕ) → i < height → i < length column.cells = λ i below. omega (arith, below, high) in
      record {
        left = omega (arith, s.left, wide);
        rows = λ i below.
            ap (λ l. l ++ encoded_bytes (drop (k + 1) encodings) (row_at (drop (k + 1) columns) i)) (x.rows i (inside i below))
            ∙ append_assoc (front_of width offset before i) (cell_bytes_at (get_or encodings k e) column.cells i) (encoded_bytes (drop (k + 1) encodings) (row_at (drop (k + 1) columns) i))
            ∙ ap (λ l. front_of width offset before i ++ l) (sym (bytes_left_over encodings columns k e column i within lt is))
            ∙ s.rows i below;
        cells = λ i below h.
            let P : List Cells → Type 0 = λ l. IsRow (dtypes_of l) (row_at l i) in
            s.cells i below (subst P (sym first) (x.cells i (inside i below), h));
        there = λ i below.
            s.there i below
            ∙ nulls_left_over columns k column i lt is
            ∙ ap (λ b. b || has_null_cell (row_at (drop (k + 1) columns) i)) (x.there i (inside i below));
      }

  pub so_far_all : (k offset : ℕ) (bytes : List ℕ) → SoFar encodings columns height width k offset bytes → length columns ≤ k → length encodings ≡ length columns → Filled encodings columns height width bytes
  so_far_all k offset bytes s le even =
      let none : drop k columns ≡ [] = drop_of_length-le columns le in
      let nothing : drop k encodings ≡ [] = drop_of_length-le encodings (omega (arith, le, even)) in
      let nought : row_width (drop k columns) ≡ 0 = ap row_width none in
      let whole : offset ≡ width = omega (arith, s.left, nought) in
      record {
        rows = λ i lt.
            ap (λ o. front_of width o bytes i) (sym whole)
            ∙ sym (append-nil (front_of width offset bytes i))
            ∙ ap (λ l. front_of width offset bytes i ++ encoded_bytes l (row_at (drop k columns) i)) (sym nothing)
            ∙ s.rows i lt;
        cells = λ i lt.
            let P : List Cells → Type 0 = λ l. IsRow (dtypes_of l) (row_at l i) in
            s.cells i lt (subst P (sym none) tt);
        there = λ i lt. s.there i lt ∙ ap (λ l. null_in_row l i) none;
      }

  -- ---- all rows

  pub dense_rows : (bytes : List ℕ) → Filled encodings columns height width bytes → height ≡ height_of columns → map unmarked (even_rows width height bytes) ≡ encoded_rows encodings columns
  dense_rows bytes filled high =
      let many : length (even_rows width height bytes) ≡ height = length-even_rows width height bytes in
      let count : length (map unmarked (even_rows width height bytes)) ≡ height = length-map (even_rows width height bytes) unmarked ∙ many in
      ext_get_or (unmarked []) (map unmarked (even_rows width height bytes)) (map (encoded_row encodings) (column_rows columns height))
      (count ∙ sym (length-map (column_rows columns height) (encoded_row encodings) ∙ length-map-range_with_len (row_at columns) 0 height))
      (λ i lt.
      let inside : i < height = omega (arith, lt, count) in
      get_or-map unmarked (even_rows width height bytes) i [] (unmarked []) (omega (arith, inside, many))
      ∙ ap unmarked (even_at width height i bytes inside ∙ filled.rows i inside)
      ∙ ap (λ b. record { bytes = row_bytes_at encodings columns i; has_null = b }) (sym (filled.there i inside))
      ∙ ap (encoded_row encodings) (sym (get_or-map-range_with_len (row_at columns) 0 height i i [] inside (omega arith)))
      ∙ sym (get_or-map (encoded_row encodings) (column_rows columns height) i [] (unmarked []) (omega (arith, length-map-range_with_len (row_at columns) 0 height, inside))))
      ∙ ap (λ h. map (encoded_row encodings) (column_rows columns h)) high

-- rows without a mark
pub unmarked_all : (rows : List (List ℕ)) (marks : List Bool) (n : ℕ) → length rows ≡ n → marks ≡ replicate n false → marked_rows rows marks ≡ map unmarked rows
unmarked_all rows marks n many m = ap (marked_rows rows) (m ∙ ap (λ k. replicate k false) (sym many)) ∙ marked_rows-none rows

-- a vector that was written over
pub vector_written : {Z : Type 0} (v : Vec ℕ Z) (new : List ℕ) → length new ≡ length v.items → (with_items v new).items ≡ new
vector_written v new e = with_items_is v new (e ∙ sym v.ok.0)
