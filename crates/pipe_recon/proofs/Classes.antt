-- The classes that the rows of the join tell are those of the codes.
use Rattle.std.proofs.Common.{◌≡◌, ℕ, zero, suc, ◌+◌, ◌<◌, ◌≤◌, Bool, true, false, cond, List, [], ◌∷◌, Option, Some, None, get_or, length, map, refl, ap, sym, subst, ◌∙◌, arith}
use Rattle.std.specs.List.{position, position_from}
use Rattle.std.proofs.lemmas.Iterator.Adapters.{position_from-zero}
use Rattle.std.proofs.lemmas.List.{get_or-map, get_or_default, length-map}
use Rattle.std.proofs.lemmas.List.FromFn.{get_or-map-range_with_len}
use Rattle.pipe_column.specs.Columns.{AllOfHeight, cell_in, column_rows, row_at}
use Rattle.pipe_frame.specs.Frame.{Table, columns_from, columns_of}
use Rattle.pipe_schema.specs.declared.data_type.DataType.TheVariants as dtype
use Rattle.pipe_schema.specs.declared.field.Field.{Field}
use Rattle.pipe_schema.specs.Cell.{uint32_cell}
use Rattle.pipe_schema.specs.Rows.{Row, Same}
use Rattle.pipe_column.specs.Series.{Cells, cell_at}
use Rattle.pipe_schema.specs.declared.any_value.AnyValue.{AnyValue}
use Rattle.pipe_schema.specs.declared.any_value.AnyValue.TheVariants as cell
use Rattle.pipe_expr.specs.Joins.{join_rows}
use Rattle.pipe_recon.specs.Codes.{Code, partner_among, same_code}
use Rattle.pipe_recon.specs.JoinPlan.{code_at, join_fields, left_table, right_table}
use Rattle.pipe_recon.specs.Least.{AreLeast, AreLeastIn, AreNumbers, Beside, BesideIn, IsLeast}
use Rattle.pipe_recon.specs.Reconciliation.{partner}
use Rattle.pipe_recon.specs.declared.recon.Partner.{Partner}
use Rattle.pipe_recon.specs.declared.recon.Partner.TheVariants.{Matched, Only}
use Rattle.pipe_recon.proofs.FirstRows.{all_same}
use Rattle.pipe_recon.proofs.JoinRows.{AreMatched, beside_matched, code_join, matched_beside}
use Rattle.pipe_recon.proofs.Meeting.{code_turned}

-- ---- positions

here_first : (test : Code → Bool) (n : ℕ) (codes : List Code) (k : ℕ) → k < length codes → test (code_at codes k) ≡ true → ((q : ℕ) → q < k → test (code_at codes q) ≡ false) → position_from test n codes ≡ Some (n + k)
here_first test n [] k lt passed failed = absurd (omega (arith, lt))
here_first test n (code ∷ codes) zero lt passed failed = ap (λ (b : Bool). cond b (Some n) (position_from test (n + 1) codes)) passed ∙ ap Some (let same : n ≡ n + 0 = omega arith in same)
here_first test n (code ∷ codes) (suc k) lt passed failed =
    ap (λ (b : Bool). cond b (Some n) (position_from test (n + 1) codes)) (failed 0 (omega arith))
    ∙ here_first test (n + 1) codes k (omega (arith, lt)) passed (λ q below. failed (suc q) (omega (arith, below)))
    ∙ ap Some (let same : (n + 1) + k ≡ n + suc k = omega arith in same)

nowhere : (test : Code → Bool) (n : ℕ) (codes : List Code) → ((q : ℕ) → q < length codes → test (code_at codes q) ≡ false) → position_from test n codes ≡ None
nowhere test n [] failed = refl
nowhere test n (code ∷ codes) failed =
    ap (λ (b : Bool). cond b (Some n) (position_from test (n + 1) codes)) (failed 0 (omega arith))
    ∙ nowhere test (n + 1) codes (λ q below. failed (suc q) (omega (arith, below)))

-- ---- the least number of which a test is true

is_false : (b : Bool) → (b ≡ true → ⊥) → b ≡ false
is_false true failed = absurd (failed refl)
is_false false failed = refl

-- a relation is true of the places where a test is
record IsTest (P : ℕ → Type 0) (test : Code → Bool) (others : List Code) : Type 0 where
  below : (j : ℕ) → P j → j < length others
  passes : (j : ℕ) → P j → test (code_at others j) ≡ true
  there : (j : ℕ) → j < length others → test (code_at others j) ≡ true → P j

least_class : (P : ℕ → Type 0) (test : Code → Bool) (others : List Code) (class : Partner) → IsTest P test others → IsLeast P class → class ≡ partner (position test others)
least_class P test others Only is least =
    ap partner (sym (position_from-zero test others ∙ nowhere test 0 others (λ q below. is_false (test (code_at others q)) (λ passed. least q (is.there q below passed)))))
least_class P test others (Matched j) is least =
    let lt : j < length others = is.below j least.0 in
    ap partner (sym (position_from-zero test others ∙ here_first test 0 others j lt (is.passes j least.0)
    (λ q below. is_false (test (code_at others q)) (λ passed. (let low : j ≤ q = least.1 q (is.there q (omega (arith, below, lt)) passed) in omega (arith, low, below))))
    ∙ ap Some (let same : 0 + j ≡ j = omega arith in same)))

-- ---- both sides

turned : (rows : List Row) (own other i j : ℕ) → BesideIn rows own other i j → BesideIn rows other own j i
turned rows own other i j b = record { place = b.place; below = b.below; number = b.partner; partner = b.number }

module _ (lefts rights : List Code) (rows : List Row) (same : Same rows (join_rows code_join (left_table lefts).rows (right_table rights).rows)) where
  left_test : (i : ℕ) → i < length lefts → IsTest (BesideIn rows 1 3 i) (same_code (code_at lefts i)) rights
  left_test i lt = record {
    below = λ j b. (beside_matched lefts rights rows same i j b).right;
    passes = λ j b. (beside_matched lefts rights rows same i j b).same;
    there = λ j below passed. matched_beside lefts rights rows same i j (record { left = lt; right = below; same = passed });
  }

  right_test : (j : ℕ) → j < length rights → IsTest (BesideIn rows 3 1 j) (same_code (code_at rights j)) lefts
  right_test j lt = record {
    below = λ i b. (beside_matched lefts rights rows same i j (turned rows 3 1 j i b)).left;
    passes = λ i b. code_turned (code_at rights j) (code_at lefts i) ∙ (beside_matched lefts rights rows same i j (turned rows 3 1 j i b)).same;
    there = λ i below passed. turned rows 1 3 i j (matched_beside lefts rights rows same i j (record { left = below; right = lt; same = code_turned (code_at lefts i) (code_at rights j) ∙ passed }));
  }

  pub left_classes : (classes : List Partner) → AreLeastIn rows 1 3 (length lefts) classes → classes ≡ map (partner_among rights) lefts
  left_classes classes are = all_same (partner_among rights) classes lefts are.long (λ k lt.
      let below : k < length lefts = omega (arith, lt, are.long) in
      least_class (BesideIn rows 1 3 k) (same_code (code_at lefts k)) rights (get_or classes k Only) (left_test k below) (are.least k below))

  pub right_classes : (classes : List Partner) → AreLeastIn rows 3 1 (length rights) classes → classes ≡ map (partner_among lefts) rights
  right_classes classes are = all_same (partner_among lefts) classes rights are.long (λ k lt.
      let below : k < length rights = omega (arith, lt, are.long) in
      least_class (BesideIn rows 3 1 k) (same_code (code_at rights k)) lefts (get_or classes k Only) (right_test k below) (are.least k below))

-- ---- pairs of numbers as the rows that have them

number_there : (x : Option ℕ) (i : ℕ) → uint32_cell x ≡ uint32_cell (Some i) → x ≡ Some i
number_there (Some a) i e = ap Some (let inside : cell.UInt32 a ≡ cell.UInt32 i = e in let same : a ≡ i = cc in same)
number_there None i e = let clash : cell.Null ≡ cell.UInt32 i = e in cc

in_rows : (rows : List Row) (own other : ℕ) (xs ys : List (Option ℕ)) → AreNumbers rows own xs → AreNumbers rows other ys → (i j : ℕ) → Beside xs ys (length xs) i j → BesideIn rows own other i j
in_rows rows own other xs ys a b i j p =
    let below : p.place < length rows = omega (arith, p.below, a.long) in
    record { place = p.place; below = below; number = a.each p.place below ∙ ap uint32_cell p.row; partner = b.each p.place below ∙ ap uint32_cell p.partner }

of_rows : (rows : List Row) (own other : ℕ) (xs ys : List (Option ℕ)) → AreNumbers rows own xs → AreNumbers rows other ys → (i j : ℕ) → BesideIn rows own other i j → Beside xs ys (length xs) i j
of_rows rows own other xs ys a b i j p = record {
  place = p.place;
  below = omega (arith, p.below, a.long);
  row = number_there (get_or xs p.place None) i (sym (a.each p.place p.below) ∙ p.number);
  partner = number_there (get_or ys p.place None) j (sym (b.each p.place p.below) ∙ p.partner);
}

least_alike : (P Q : ℕ → Type 0) (class : Partner) → ((j : ℕ) → P j → Q j) → ((j : ℕ) → Q j → P j) → IsLeast P class → IsLeast Q class
least_alike P Q (Matched j) to from least = (to j least.0, λ q h. least.1 q (from q h))
least_alike P Q Only to from least = λ q h. least q (from q h)

pub least_in : (rows : List Row) (own other height : ℕ) (xs ys : List (Option ℕ)) (classes : List Partner) → AreNumbers rows own xs → AreNumbers rows other ys → length classes ≡ height → AreLeast xs ys (length xs) classes → AreLeastIn rows own other height classes
least_in rows own other height xs ys classes a b long least = record {
  long = long;
  least = λ i lt. least_alike (Beside xs ys (length xs) i) (BesideIn rows own other i) (get_or classes i Only) (in_rows rows own other xs ys a b i) (of_rows rows own other xs ys a b i) (least i (omega (arith, lt, long)));
}

pub as_many : (rows : List Row) (own other : ℕ) (xs ys : List (Option ℕ)) → AreNumbers rows own xs → AreNumbers rows other ys → length xs ≡ length ys
as_many rows own other xs ys a b = a.long ∙ sym b.long

-- ---- the columns of row numbers

abbrev pub no_column : Cells
no_column = record { name = []; dtype = dtype.Boolean; cells = [] }

abbrev pub column_at : List Cells → ℕ → Cells
column_at columns place = get_or columns place no_column

pub four_columns : (table : Table) (columns : List Cells) → table.schema ≡ join_fields → columns ≡ columns_of table → length columns ≡ 4
four_columns table columns fields are = ap length are ∙ ap (λ (fs : List Field). length (columns_from 0 fs table.rows)) fields

pub left_dtype : (table : Table) (columns : List Cells) → table.schema ≡ join_fields → columns ≡ columns_of table → (column_at columns 1).dtype ≡ dtype.UInt32
left_dtype table columns fields are = ap (λ (cs : List Cells). (column_at cs 1).dtype) are ∙ ap (λ (fs : List Field). (column_at (columns_from 0 fs table.rows) 1).dtype) fields

pub right_dtype : (table : Table) (columns : List Cells) → table.schema ≡ join_fields → columns ≡ columns_of table → (column_at columns 3).dtype ≡ dtype.UInt32
right_dtype table columns fields are = ap (λ (cs : List Cells). (column_at cs 3).dtype) are ∙ ap (λ (fs : List Field). (column_at (columns_from 0 fs table.rows) 3).dtype) fields

-- a column of this many nullable numbers, by the rows
pub numbers_in : (table : Table) (columns : List Cells) (place : ℕ) (numbers : List (Option ℕ)) → place < length columns → table.rows ≡ column_rows columns (length table.rows) → AllOfHeight (length table.rows) columns → (column_at columns place).cells ≡ map uint32_cell numbers → AreNumbers table.rows place numbers
numbers_in table columns place numbers inside rows even cells =
    let tall : length (column_at columns place).cells ≡ length table.rows = even place no_column inside in
    let long : length numbers ≡ length table.rows = sym (length-map numbers uint32_cell) ∙ ap length (sym cells) ∙ tall in
    record {
      long = long;
      each = λ k lt.
          let row : get_or table.rows k [] ≡ row_at columns k = ap (λ (rs : List Row). get_or rs k []) rows ∙ get_or-map-range_with_len (row_at columns) 0 (length table.rows) k k [] lt (omega arith) in
          ap (λ (r : Row). cell_at r place) row
          ∙ get_or-map (cell_in k) columns place no_column cell.Null inside
          ∙ ap (λ (cs : List AnyValue). cell_at cs k) cells
          ∙ get_or-map uint32_cell numbers k None cell.Null (omega (arith, lt, long));
    }

pub cells_at : (columns : List Cells) (place : ℕ) (column : Cells) (cells : List AnyValue) → place < length columns → column ≡ get_or columns place column → column.cells ≡ cells → (column_at columns place).cells ≡ cells
cells_at columns place column cells inside is e = ap (λ (c : Cells). c.cells) (get_or_default columns place no_column column inside ∙ sym is) ∙ e
