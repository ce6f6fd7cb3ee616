-- The full join of codes and row numbers: which row numbers stand beside each other in it, and how many rows it has.
use Rattle.std.proofs.Common.{◌≡◌, ℕ, zero, suc, ◌+◌, ◌<◌, ◌≤◌, Bool, true, false, cond, List, [], ◌∷◌, ◌++◌, Option, Some, None, get_or, length, map, refl, ap, sym, subst, ◌∙◌, arith}
use Rattle.std.specs.Prelude.{◌==◌, ◌&&◌, codes, filter, not}
use Rattle.std.specs.List.{flat_map, list_any, range_with_len}
use Rattle.std.specs.Str.{bytes_eq}
use Rattle.std.proofs.lemmas.Bool.{eq-eqb, eqb-true}
use Rattle.std.proofs.lemmas.List.FromFn.{fill_by_all}
use Rattle.pipe_schema.specs.Cell.{binary_cell}
use Rattle.pipe_schema.specs.Rows.{Row, Same}
use Rattle.pipe_column.specs.Series.{cell_at}
use Rattle.pipe_schema.specs.declared.any_value.AnyValue.{AnyValue}
use Rattle.pipe_schema.specs.declared.any_value.AnyValue.TheVariants as cell
use Rattle.pipe_frame.proofs.Tables.{map_map}
use Rattle.pipe_schema.specs.Weights.{total}
use Rattle.pipe_schema.proofs.Weights.{SameBag-from_rows, total-append, total-filter, total-flat_map, total-map}
use Rattle.pipe_expr.specs.Formula.{Column}
use Rattle.pipe_expr.specs.Joins.{Join, has_right_match, join_rows, keys_match, lacks_left_match, lacks_right_match, matches, pad_left, pad_right, padded_left, padded_right, pair, pairs, pairs_of}
use Rattle.pipe_plan.specs.PlanRows.{rows_of}
use Rattle.pipe_plan.specs.Schemas.{join_over, schema_of}
use Rattle.pipe_recon.specs.Codes.{Code, same_code}
use Rattle.pipe_recon.specs.Least.{BesideIn}
use Rattle.pipe_recon.specs.JoinPlan.{code_at, coded_row, coded_table, join_fields, join_plan, join_root, left_table, options, right_table}

-- ---- the join of the plan

-- its settings, which don't depend on the codes
abbrev pub code_join : Join
code_join = join_over (left_table []).schema (right_table []).schema (Column (codes "left_key") ∷ []) (Column (codes "right_key") ∷ []) (options 0 0)

pub rows_are : (lefts rights : List Code) → rows_of (join_plan lefts rights) join_root ≡ join_rows code_join (left_table lefts).rows (right_table rights).rows
unfolding join_plan
rows_are lefts rights = refl

pub left_rows : (lefts rights : List Code) → rows_of (join_plan lefts rights) 0 ≡ (left_table lefts).rows
unfolding join_plan
left_rows lefts rights = refl

pub right_rows : (lefts rights : List Code) → rows_of (join_plan lefts rights) 1 ≡ (right_table rights).rows
unfolding join_plan
right_rows lefts rights = refl

pub fields_are : (lefts rights : List Code) → schema_of (join_plan lefts rights) join_root ≡ join_fields
unfolding join_plan
fields_are lefts rights = refl

-- ---- which rows match

true_and : (b : Bool) → (b && true) ≡ b
true_and true = refl
true_and false = refl

false_and : (b : Bool) → (b && false) ≡ false
false_and true = refl
false_and false = refl

-- keys of one cell
pub one_key : (a b : Code) → keys_match false (binary_cell a ∷ []) (binary_cell b ∷ []) ≡ same_code a b
one_key (Some a) (Some b) = true_and (bytes_eq a b && true) ∙ true_and (bytes_eq a b)
one_key (Some a) None = refl
one_key None (Some b) = refl
one_key None None = refl

pub rows_match : (lefts rights : List Code) (a b : ℕ) → matches code_join (coded_row lefts a) (coded_row rights b) ≡ same_code (code_at lefts a) (code_at rights b)
rows_match lefts rights a b = one_key (code_at lefts a) (code_at rights b)

-- ---- sums

apart : (a b : ℕ) → (a == b) ≡ false → a ≡ b → ⊥
apart a b e same = let yes : (a == b) ≡ true = eq-eqb a b same in cc

above : (a from : ℕ) → from ≤ a → (a ≡ from → ⊥) → from + 1 ≤ a
above a from low other = grind (arith, low, other)

pub found_below : (f : ℕ → ℕ) (from n : ℕ) → 0 < total f (range_with_len from n) → (a : ℕ) × (from ≤ a) × (a < from + n) × (0 < f a)
found_below f from zero h = absurd (omega (arith, h))
found_below f from (suc n) h =
    let split : (v : ℕ) → f from ≡ v → (a : ℕ) × (from ≤ a) × (a < from + suc n) × (0 < f a) = elim [
      | zero ↦ λ e. (let later = found_below f (from + 1) n (omega (arith, h, e)) in (later.0, omega (arith, later.1), omega (arith, later.2), later.3))
      | suc v ↦ λ e. (from, omega arith, omega arith, omega (arith, e))
    ] in split (f from) refl

pub there_below : (f : ℕ → ℕ) (from n a : ℕ) → from ≤ a → a < from + n → f a ≤ total f (range_with_len from n)
there_below f from zero a low high = absurd (omega (arith, low, high))
there_below f from (suc n) a low high =
    let split : (b : Bool) → (a == from) ≡ b → f a ≤ f from + total f (range_with_len (from + 1) n) = elim [
      | true ↦ λ e. (let same : a ≡ from = eqb-true a from e in let v : f a ≡ f from = ap f same in omega (arith, v))
      | false ↦ λ e. (let more : from + 1 ≤ a = above a from low (apart a from e) in let later : f a ≤ total f (range_with_len (from + 1) n) = there_below f (from + 1) n a more (omega (arith, high)) in omega (arith, later))
    ] in split (a == from) refl

pub found_at : (f : Row → ℕ) (rows : List Row) → 0 < total f rows → (k : ℕ) × (k < length rows) × (0 < f (get_or rows k []))
found_at f [] h = absurd (omega (arith, h))
found_at f (row ∷ rows) h =
    let split : (v : ℕ) → f row ≡ v → (k : ℕ) × (k < length (row ∷ rows)) × (0 < f (get_or (row ∷ rows) k [])) = elim [
      | zero ↦ λ e. (let later = found_at f rows (omega (arith, h, e)) in (suc later.0, omega (arith, later.1), later.2))
      | suc v ↦ λ e. (0, omega arith, omega (arith, e))
    ] in split (f row) refl

pub there_at : (f : Row → ℕ) (rows : List Row) (k : ℕ) → k < length rows → f (get_or rows k []) ≤ total f rows
there_at f [] k h = absurd (omega (arith, h))
there_at f (row ∷ rows) zero h = omega arith
there_at f (row ∷ rows) (suc k) h = let later : f (get_or rows k []) ≤ total f rows = there_at f rows k (omega (arith, h)) in omega (arith, later)

all_zero : {X : Type 0} (f : X → ℕ) (xs : List X) → ((x : X) → f x ≡ 0) → total f xs ≡ 0
all_zero f [] h = refl
all_zero f (x ∷ xs) h = omega (arith, h x, all_zero f xs h)

-- ---- which row numbers stand beside each other

-- whether a cell is this row number
abbrev pub is_number : ℕ → AnyValue → Bool
is_number i (cell.UInt32 a) = a == i
is_number i _ = false

-- 1 where a row of the join has these two row numbers
abbrev pub beside_weight : (i j : ℕ) → Row → ℕ
beside_weight i j row = cond (is_number i (cell_at row 1) && is_number j (cell_at row 3)) 1 0

pair_sum : (lefts rights : List Code) (i j : ℕ) → ℕ
pair_sum lefts rights i j = total (λ a. total (λ b. cond (same_code (code_at lefts a) (code_at rights b)) (cond ((a == i) && (b == j)) 1 0) 0) (range_with_len 0 (length rights))) (range_with_len 0 (length lefts))

total_alike : {X : Type 0} (f g : X → ℕ) (xs : List X) → ((x : X) → f x ≡ g x) → total f xs ≡ total g xs
total_alike f g [] h = refl
total_alike f g (x ∷ xs) h = omega (arith, h x, total_alike f g xs h)

-- the pairs of one left row
row_pairs : (lefts rights : List Code) (i j a : ℕ) → total (beside_weight i j) (pairs_of code_join (right_table rights).rows (coded_row lefts a)) ≡ total (λ b. cond (same_code (code_at lefts a) (code_at rights b)) (cond ((a == i) && (b == j)) 1 0) 0) (range_with_len 0 (length rights))
row_pairs lefts rights i j a =
    let own : Row = coded_row lefts a in
    total-map (pair code_join own) (beside_weight i j) (filter (matches code_join own) (right_table rights).rows)
    ∙ total-filter (matches code_join own) (λ row. beside_weight i j (pair code_join own row)) (right_table rights).rows
    ∙ total-map (coded_row rights) (λ row. cond (matches code_join own row) (beside_weight i j (pair code_join own row)) 0) (range_with_len 0 (length rights))
    ∙ total_alike (λ b. cond (matches code_join own (coded_row rights b)) (beside_weight i j (pair code_join own (coded_row rights b))) 0) (λ b. cond (same_code (code_at lefts a) (code_at rights b)) (cond ((a == i) && (b == j)) 1 0) 0) (range_with_len 0 (length rights))
    (λ b. ap (λ (m : Bool). cond m (cond ((a == i) && (b == j)) 1 0) 0) (rows_match lefts rights a b))

all_pairs : (lefts rights : List Code) (i j : ℕ) → total (beside_weight i j) (pairs code_join (left_table lefts).rows (right_table rights).rows) ≡ pair_sum lefts rights i j
unfolding pair_sum
all_pairs lefts rights i j =
    total-flat_map (pairs_of code_join (right_table rights).rows) (beside_weight i j) (left_table lefts).rows
    ∙ total-map (coded_row lefts) (λ row. total (beside_weight i j) (pairs_of code_join (right_table rights).rows row)) (range_with_len 0 (length lefts))
    ∙ total_alike (λ a. total (beside_weight i j) (pairs_of code_join (right_table rights).rows (coded_row lefts a))) (λ a. total (λ b. cond (same_code (code_at lefts a) (code_at rights b)) (cond ((a == i) && (b == j)) 1 0) 0) (range_with_len 0 (length rights))) (range_with_len 0 (length lefts)) (row_pairs lefts rights i j)

cond_zero : (b : Bool) (n : ℕ) → n ≡ 0 → cond b n 0 ≡ 0
cond_zero true n e = e
cond_zero false n e = refl

-- rows without a match have one number alone
left_zero : (lefts : List Code) (right : List Row) (i j : ℕ) → total (beside_weight i j) (padded_left code_join (left_table lefts).rows right) ≡ 0
left_zero lefts right i j =
    total-map (pad_left code_join) (beside_weight i j) (filter (lacks_right_match code_join right) (left_table lefts).rows)
    ∙ total-filter (lacks_right_match code_join right) (λ row. beside_weight i j (pad_left code_join row)) (left_table lefts).rows
    ∙ total-map (coded_row lefts) (λ row. cond (lacks_right_match code_join right row) (beside_weight i j (pad_left code_join row)) 0) (range_with_len 0 (length lefts))
    ∙ all_zero (λ a. cond (lacks_right_match code_join right (coded_row lefts a)) (beside_weight i j (pad_left code_join (coded_row lefts a))) 0) (range_with_len 0 (length lefts))
    (λ a. cond_zero (lacks_right_match code_join right (coded_row lefts a)) (beside_weight i j (pad_left code_join (coded_row lefts a))) (ap (λ (b : Bool). cond b 1 0) (false_and (a == i))))

right_zero : (rights : List Code) (left : List Row) (i j : ℕ) → total (beside_weight i j) (padded_right code_join left (right_table rights).rows) ≡ 0
right_zero rights left i j =
    total-map (pad_right code_join) (beside_weight i j) (filter (lacks_left_match code_join left) (right_table rights).rows)
    ∙ total-filter (lacks_left_match code_join left) (λ row. beside_weight i j (pad_right code_join row)) (right_table rights).rows
    ∙ total-map (coded_row rights) (λ row. cond (lacks_left_match code_join left row) (beside_weight i j (pad_right code_join row)) 0) (range_with_len 0 (length rights))
    ∙ all_zero (λ b. cond (lacks_left_match code_join left (coded_row rights b)) (beside_weight i j (pad_right code_join (coded_row rights b))) 0) (range_with_len 0 (length rights))
    (λ b. cond_zero (lacks_left_match code_join left (coded_row rights b)) 0 refl)

join_sum : (lefts rights : List Code) (i j : ℕ) → total (beside_weight i j) (join_rows code_join (left_table lefts).rows (right_table rights).rows) ≡ pair_sum lefts rights i j
join_sum lefts rights i j =
    let ps : List Row = pairs code_join (left_table lefts).rows (right_table rights).rows in
    let ls : List Row = padded_left code_join (left_table lefts).rows (right_table rights).rows in
    let rs : List Row = padded_right code_join (left_table lefts).rows (right_table rights).rows in
    let whole : total (beside_weight i j) (join_rows code_join (left_table lefts).rows (right_table rights).rows) ≡ (total (beside_weight i j) ps + total (beside_weight i j) ls) + total (beside_weight i j) rs = total-append (beside_weight i j) (ps ++ ls) rs ∙ ap (λ (n : ℕ). n + total (beside_weight i j) rs) (total-append (beside_weight i j) ps ls) in
    omega (arith, whole, all_pairs lefts rights i j, left_zero lefts (right_table rights).rows i j, right_zero rights (left_table lefts).rows i j)

positive : (s x y : Bool) → 0 < cond s (cond (x && y) 1 0) 0 → (s ≡ true) × (x ≡ true) × (y ≡ true)
positive true true true h = (refl, refl, refl)
positive true true false h = absurd (omega (arith, h))
positive true false y h = absurd (omega (arith, h))
positive false x y h = absurd (omega (arith, h))

-- the numbers of two rows that match
pub record AreMatched (lefts rights : List Code) (i j : ℕ) : Type 0 where
  pub left : i < length lefts
  pub right : j < length rights
  pub same : same_code (code_at lefts i) (code_at rights j) ≡ true

sum_matched : (lefts rights : List Code) (i j : ℕ) → 0 < pair_sum lefts rights i j → AreMatched lefts rights i j
unfolding pair_sum
sum_matched lefts rights i j h =
    let f : ℕ → ℕ → ℕ = λ a b. cond (same_code (code_at lefts a) (code_at rights b)) (cond ((a == i) && (b == j)) 1 0) 0 in
    let outer = found_below (λ a. total (f a) (range_with_len 0 (length rights))) 0 (length lefts) h in
    let inner = found_below (f outer.0) 0 (length rights) outer.3 in
    let parts = positive (same_code (code_at lefts outer.0) (code_at rights inner.0)) (outer.0 == i) (inner.0 == j) inner.3 in
    let left : outer.0 ≡ i = eqb-true outer.0 i parts.1 in
    let right : inner.0 ≡ j = eqb-true inner.0 j parts.2 in
    record {
      left = omega (arith, left, outer.2);
      right = omega (arith, right, inner.2);
      same = ap (λ (k : ℕ). same_code (code_at lefts k) (code_at rights j)) (sym left) ∙ ap (λ (k : ℕ). same_code (code_at lefts outer.0) (code_at rights k)) (sym right) ∙ parts.0;
    }

matched_sum : (lefts rights : List Code) (i j : ℕ) → AreMatched lefts rights i j → 0 < pair_sum lefts rights i j
unfolding pair_sum
matched_sum lefts rights i j m =
    let f : ℕ → ℕ → ℕ = λ a b. cond (same_code (code_at lefts a) (code_at rights b)) (cond ((a == i) && (b == j)) 1 0) 0 in
    let left : (i == i) ≡ true = eq-eqb i i refl in
    let right : (j == j) ≡ true = eq-eqb j j refl in
    let one : f i j ≡ 1 =
    ap (λ (s : Bool). cond s (cond ((i == i) && (j == j)) 1 0) 0) m.same
    ∙ ap (λ (s : Bool). cond (s && (j == j)) 1 0) left ∙ ap (λ (s : Bool). cond s 1 0) right in
    let inner : f i j ≤ total (f i) (range_with_len 0 (length rights)) = there_below (f i) 0 (length rights) j (omega arith) (omega (arith, m.right)) in
    let outer : total (f i) (range_with_len 0 (length rights)) ≤ total (λ a. total (f a) (range_with_len 0 (length rights))) (range_with_len 0 (length lefts)) = there_below (λ a. total (f a) (range_with_len 0 (length rights))) 0 (length lefts) i (omega arith) (omega (arith, m.left)) in
    omega (arith, one, inner, outer)

number_is : (i : ℕ) (c : AnyValue) → is_number i c ≡ true → c ≡ cell.UInt32 i
number_is i (cell.UInt32 a) e = ap cell.UInt32 (eqb-true a i e)
number_is i cell.Null e = cc
number_is i (cell.Int32 a) e = cc
number_is i (cell.Int64 a) e = cc
number_is i (cell.UInt64 a) e = cc
number_is i (cell.Boolean a) e = cc
number_is i (cell.String a) e = cc
number_is i (cell.Binary a) e = cc
number_is i (cell.Int128 a) e = cc

weighs : (i j : ℕ) (row : Row) → 0 < beside_weight i j row → (cell_at row 1 ≡ cell.UInt32 i) × (cell_at row 3 ≡ cell.UInt32 j)
weighs i j row h =
    let parts = positive true (is_number i (cell_at row 1)) (is_number j (cell_at row 3)) h in
    (number_is i (cell_at row 1) parts.1, number_is j (cell_at row 3) parts.2)

weight_is : (i j : ℕ) (row : Row) → cell_at row 1 ≡ cell.UInt32 i → cell_at row 3 ≡ cell.UInt32 j → beside_weight i j row ≡ 1
weight_is i j row e f =
    let left : is_number i (cell_at row 1) ≡ true = ap (is_number i) e ∙ eq-eqb i i refl in
    let right : is_number j (cell_at row 3) ≡ true = ap (is_number j) f ∙ eq-eqb j j refl in
    ap (λ (s : Bool). cond (s && is_number j (cell_at row 3)) 1 0) left ∙ ap (λ (s : Bool). cond s 1 0) right

module _ (lefts rights : List Code) (rows : List Row) (same : Same rows (join_rows code_join (left_table lefts).rows (right_table rights).rows)) (i j : ℕ) where
  sums_are : total (beside_weight i j) rows ≡ pair_sum lefts rights i j
  sums_are = (SameBag-from_rows same).sums (beside_weight i j) ∙ join_sum lefts rights i j

  -- numbers that stand beside each other in rows of the join are those of rows that match
  pub beside_matched : BesideIn rows 1 3 i j → AreMatched lefts rights i j
  beside_matched b =
      let here : beside_weight i j (get_or rows b.place []) ≤ total (beside_weight i j) rows = there_at (beside_weight i j) rows b.place b.below in
      let one : beside_weight i j (get_or rows b.place []) ≡ 1 = weight_is i j (get_or rows b.place []) b.number b.partner in
      sum_matched lefts rights i j (omega (arith, here, one, sums_are))

  pub matched_beside : AreMatched lefts rights i j → BesideIn rows 1 3 i j
  matched_beside m =
      let some : 0 < pair_sum lefts rights i j = matched_sum lefts rights i j m in
      let there = found_at (beside_weight i j) rows (omega (arith, some, sums_are)) in
      let cells = weighs i j (get_or rows there.0 []) there.2 in
      record { place = there.0; below = there.1; number = cells.0; partner = cells.1 }
