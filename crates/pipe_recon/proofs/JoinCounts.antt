-- How many rows a full join has depends on which rows match alone.
use Rattle.std.proofs.Common.{◌≡◌, ℕ, ◌+◌, Bool, true, false, cond, List, [], ◌∷◌, ◌++◌, Some, None, length, length-append, map, refl, ap, sym, ◌∙◌, arith}
use Rattle.std.specs.Prelude.{filter, not, ◌||◌, All}
use Rattle.std.specs.List.{list_any, range_with_len}
use Rattle.std.proofs.lemmas.List.{length-map}
use Rattle.std.proofs.lemmas.List.FromFn.{fill_by_all, length-map-range_with_len}
use Rattle.pipe_schema.specs.Cell.{binary_cell}
use Rattle.pipe_frame.specs.Frame.{Table}
use Rattle.pipe_schema.specs.Rows.{Row}
use Rattle.pipe_column.specs.Series.{cell_at}
use Rattle.pipe_schema.specs.declared.any_value.AnyValue.{AnyValue}
use Rattle.pipe_schema.specs.declared.any_value.AnyValue.TheVariants as cell
use Rattle.pipe_schema.specs.declared.data_type.DataType.{DataType}
use Rattle.pipe_frame.proofs.Tables.{map_map}
use Rattle.pipe_schema.specs.Weights.{total}
use Rattle.pipe_schema.proofs.Weights.{total-append, total-filter, total-flat_map, total-map}
use Rattle.pipe_expr.specs.Formula.{Column}
use Rattle.pipe_expr.specs.Joins.{Join, has_right_match, join_rows, key_cell, keys_match, lacks_left_match, lacks_right_match, matched_by, matches, pad_left, pad_right, padded_left, padded_right, pair, pairs, pairs_of}
use Rattle.pipe_expr.specs.Joins as joins
use Rattle.pipe_plan.specs.PlanRows.{rows_of}
use Rattle.pipe_recon.specs.Codes.{Code, HasTypedKey, code_of, codes_of, key_types, same_code}
use Rattle.pipe_recon.specs.FullJoin.{full_join, full_rows}
use Rattle.pipe_recon.specs.JoinPlan.{code_at, coded_row, join_plan, join_root, left_table, right_table}
use Rattle.pipe_recon.specs.Reconciliation.{key_cells, meets}
use Rattle.pipe_recon.specs.declared.recon_spec.ReconSpec.{ReconSpec}
use Rattle.pipe_recon.proofs.JoinRows.{code_join, left_rows, one_key, right_rows, rows_are}
use Rattle.pipe_recon.proofs.Partners.{Each, each, each_so, one_meets}

length_is : {X : Type 0} (xs : List X) → length xs ≡ total (λ x. 1) xs
length_is [] = refl
length_is (x ∷ xs) = omega (arith, length_is xs)

total_each : {X Y : Type 0} (f : X → ℕ) (g : Y → ℕ) (c : X → Y) (xs : List X) → Each (λ x. f x ≡ g (c x)) xs → total f xs ≡ total g (map c xs)
total_each f g c [] all = refl
total_each f g c (x ∷ xs) all = omega (arith, all.0, total_each f g c xs all.1)

any_each : {X Y : Type 0} (p : X → Bool) (q : Y → Bool) (c : X → Y) (xs : List X) → Each (λ x. p x ≡ q (c x)) xs → list_any p xs ≡ list_any q (map c xs)
any_each p q c [] all = refl
any_each p q c (x ∷ xs) all = ap (λ (b : Bool). b || list_any p xs) all.0 ∙ ap (λ (b : Bool). q (c x) || b) (any_each p q c xs all.1)

-- ---- a count by codes

abbrev met_code : Code → Code → Bool
met_code b a = same_code a b

abbrev partners_of : List Code → Code → ℕ
partners_of others code = total (λ other. cond (same_code code other) 1 0) others

abbrev left_alone : List Code → Code → ℕ
left_alone others code = cond (not (list_any (same_code code) others)) 1 0

abbrev right_alone : List Code → Code → ℕ
right_alone others code = cond (not (list_any (met_code code) others)) 1 0

pub full_count : List Code → List Code → ℕ
full_count lefts rights = total (partners_of rights) lefts + (total (left_alone rights) lefts + total (right_alone lefts) rights)

-- rows whose codes tell whether they match
pub record AreCoded (j : Join) (P Q : Row → Type 0) (c d : Row → Code) : Type 0 where
  pub agree : (l r : Row) → P l → Q r → matches j l r ≡ same_code (c l) (d r)

module _ (j : Join) (P Q : Row → Type 0) (c d : Row → Code) (coded : AreCoded j P Q c d) where
  pairs_count : (left right : List Row) → Each P left → Each Q right → length (pairs j left right) ≡ total (partners_of (map d right)) (map c left)
  pairs_count left right ps qs =
      length_is (pairs j left right)
      ∙ total-flat_map (pairs_of j right) (λ x. 1) left
      ∙ total_each (λ l. total (λ x. 1) (pairs_of j right l)) (partners_of (map d right)) c left (each_so P _ left (λ l p.
      total-map (pair j l) (λ x. 1) (filter (matches j l) right)
      ∙ total-filter (matches j l) (λ x. 1) right
      ∙ total_each (λ r. cond (matches j l r) 1 0) (λ code. cond (same_code (c l) code) 1 0) d right (each_so Q _ right (λ r q. ap (λ (b : Bool). cond b 1 0) (coded.agree l r p q)) qs)) ps)

  left_count : (left right : List Row) → Each P left → Each Q right → length (padded_left j left right) ≡ total (left_alone (map d right)) (map c left)
  left_count left right ps qs =
      length_is (padded_left j left right)
      ∙ total-map (pad_left j) (λ x. 1) (filter (lacks_right_match j right) left)
      ∙ total-filter (lacks_right_match j right) (λ x. 1) left
      ∙ total_each (λ l. cond (lacks_right_match j right l) 1 0) (left_alone (map d right)) c left (each_so P _ left (λ l p.
      ap (λ (b : Bool). cond (not b) 1 0) (any_each (matches j l) (same_code (c l)) d right (each_so Q _ right (λ r q. coded.agree l r p q) qs))) ps)

  right_count : (left right : List Row) → Each P left → Each Q right → length (padded_right j left right) ≡ total (right_alone (map c left)) (map d right)
  right_count left right ps qs =
      length_is (padded_right j left right)
      ∙ total-map (pad_right j) (λ x. 1) (filter (lacks_left_match j left) right)
      ∙ total-filter (lacks_left_match j left) (λ x. 1) right
      ∙ total_each (λ r. cond (lacks_left_match j left r) 1 0) (right_alone (map c left)) d right (each_so Q _ right (λ r q.
      ap (λ (b : Bool). cond (not b) 1 0) (any_each (matched_by j r) (met_code (d r)) c left (each_so P _ left (λ l p. coded.agree l r p q) ps))) qs)

  all_count : (left right : List Row) → Each P left → Each Q right → length (pairs j left right ++ padded_left j left right ++ padded_right j left right) ≡ full_count (map c left) (map d right)
  unfolding full_count
  all_count left right ps qs =
      let a : length (pairs j left right) ≡ total (partners_of (map d right)) (map c left) = pairs_count left right ps qs in
      let b : length (padded_left j left right) ≡ total (left_alone (map d right)) (map c left) = left_count left right ps qs in
      let e : length (padded_right j left right) ≡ total (right_alone (map c left)) (map d right) = right_count left right ps qs in
      omega (arith, a, b, e, length-append (pairs j left right ++ padded_left j left right) (padded_right j left right), length-append (pairs j left right) (padded_left j left right))

-- ---- the full join of two tables

column_keys : (left right : Table) (spec : ReconSpec) (l r : Row) → matches (full_join left right spec) l r ≡ meets left right spec l r
column_keys left right spec l r =
    ap (λ (k : Row). keys_match spec.join_nulls k (joins.key_of right.schema (map Column spec.on) r)) (map_map (key_cell left.schema l) Column spec.on)
    ∙ ap (λ (k : Row). keys_match spec.join_nulls (key_cells left.schema spec.on l) k) (map_map (key_cell right.schema r) Column spec.on)

tables_coded : (left right : Table) (spec : ReconSpec) → key_types left.schema spec.on ≡ key_types right.schema spec.on → AreCoded (full_join left right spec) (HasTypedKey left.schema spec.on) (HasTypedKey right.schema spec.on) (code_of left.schema spec) (code_of right.schema spec)
tables_coded left right spec same = record { agree = λ l r p q. column_keys left right spec l r ∙ one_meets left right spec same l r p q }

table_count : (left right : Table) (spec : ReconSpec) → key_types left.schema spec.on ≡ key_types right.schema spec.on → All (HasTypedKey left.schema spec.on) left.rows → All (HasTypedKey right.schema spec.on) right.rows → length (full_rows left right spec) ≡ full_count (codes_of left.schema spec left.rows) (codes_of right.schema spec right.rows)
table_count left right spec same lefts rights =
    all_count (full_join left right spec) (HasTypedKey left.schema spec.on) (HasTypedKey right.schema spec.on) (code_of left.schema spec) (code_of right.schema spec) (tables_coded left right spec same) left.rows right.rows (each (HasTypedKey left.schema spec.on) left.rows lefts) (each (HasTypedKey right.schema spec.on) right.rows rights)

-- ---- the join of codes

abbrev code_in : AnyValue → Code
code_in (cell.Binary bytes) = Some bytes
code_in _ = None

abbrev row_code : Row → Code
row_code row = code_in (cell_at row 0)

code_back : (code : Code) → code_in (binary_cell code) ≡ code
code_back (Some bytes) = refl
code_back None = refl

-- a row's key is its code
abbrev HasCode : (Row → Row) → Row → Type 0
HasCode key row = key row ≡ binary_cell (row_code row) ∷ []

abbrev left_key : Row → Row
left_key row = joins.key_of code_join.left code_join.left_on row

abbrev right_key : Row → Row
right_key row = joins.key_of code_join.right code_join.right_on row

rows_coded : AreCoded code_join (HasCode left_key) (HasCode right_key) row_code row_code
rows_coded = record { agree = λ l r p q. ap (λ (k : Row). keys_match false k (right_key r)) p ∙ ap (λ (k : Row). keys_match false (binary_cell (row_code l) ∷ []) k) q ∙ one_key (row_code l) (row_code r) }

each_coded : (codes : List Code) (places : List ℕ) → Each (HasCode left_key) (map (coded_row codes) places)
each_coded codes [] = tt
each_coded codes (i ∷ places) = (ap (λ (c : Code). binary_cell c ∷ []) (sym (code_back (code_at codes i))), each_coded codes places)

each_coded_right : (codes : List Code) (places : List ℕ) → Each (HasCode right_key) (map (coded_row codes) places)
each_coded_right codes [] = tt
each_coded_right codes (i ∷ places) = (ap (λ (c : Code). binary_cell c ∷ []) (sym (code_back (code_at codes i))), each_coded_right codes places)

codes_back : (codes : List Code) → map row_code (map (coded_row codes) (range_with_len 0 (length codes))) ≡ codes
codes_back codes =
    map_map row_code (coded_row codes) (range_with_len 0 (length codes))
    ∙ sym (fill_by_all (λ i. code_in (binary_cell (code_at codes i))) codes (length codes) None refl (λ i lt. sym (code_back (code_at codes i))))

plan_count : (lefts rights : List Code) → length (rows_of (join_plan lefts rights) join_root) ≡ full_count lefts rights
plan_count lefts rights =
    ap length (rows_are lefts rights)
    ∙ all_count code_join (HasCode left_key) (HasCode right_key) row_code row_code rows_coded (left_table lefts).rows (right_table rights).rows (each_coded lefts (range_with_len 0 (length lefts))) (each_coded_right rights (range_with_len 0 (length rights)))
    ∙ ap (λ (cs : List Code). full_count cs (map row_code (right_table rights).rows)) (codes_back lefts)
    ∙ ap (λ (cs : List Code). full_count lefts cs) (codes_back rights)

-- ---- as many rows

pub join_height : (left right : Table) (spec : ReconSpec) (lefts rights : List Code) → key_types left.schema spec.on ≡ key_types right.schema spec.on → All (HasTypedKey left.schema spec.on) left.rows → All (HasTypedKey right.schema spec.on) right.rows → lefts ≡ codes_of left.schema spec left.rows → rights ≡ codes_of right.schema spec right.rows → length (rows_of (join_plan lefts rights) join_root) ≡ length (full_rows left right spec)
join_height left right spec lefts rights same a b e f =
    plan_count lefts rights
    ∙ ap (λ (cs : List Code). full_count cs rights) e
    ∙ ap (λ (cs : List Code). full_count (codes_of left.schema spec left.rows) cs) f
    ∙ sym (table_count left right spec same a b)

pub left_height : (left : Table) (spec : ReconSpec) (lefts rights : List Code) → lefts ≡ codes_of left.schema spec left.rows → length (rows_of (join_plan lefts rights) 0) ≡ length left.rows
left_height left spec lefts rights e = ap length (left_rows lefts rights) ∙ length-map-range_with_len (coded_row lefts) 0 (length lefts) ∙ ap length e ∙ length-map left.rows (code_of left.schema spec)

pub right_height : (right : Table) (spec : ReconSpec) (lefts rights : List Code) → rights ≡ codes_of right.schema spec right.rows → length (rows_of (join_plan lefts rights) 1) ≡ length right.rows
right_height right spec lefts rights e = ap length (right_rows lefts rights) ∙ length-map-range_with_len (coded_row rights) 0 (length rights) ∙ ap length e ∙ length-map right.rows (code_of right.schema spec)
