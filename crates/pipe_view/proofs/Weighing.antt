-- Sums over the rows of all groups, and what holds of each of them.
use Rattle.std.proofs.Common.{◌≡◌, ℕ, ◌+◌, ◌≤◌, Bool, true, false, cond, List, [], ◌∷◌, ◌++◌, map, length, refl, ap, sym, ◌∙◌, subst, arith, eqb}
use Rattle.std.specs.Prelude.{not, ◌&&◌, ◌||◌, unwrap_or, Option, Some, None, sum_by}
use Rattle.std.specs.List.{flat_map, AllByRecursion, list_any}
use Rattle.std.specs.Map.{keys_of, values_of, lookup}
use Rattle.std.specs.BTreeMap.{is_at}
use Rattle.std.proofs.lemmas.List.Sums.{sum_by-cons}
use Rattle.std.proofs.lemmas.Bool.{eqb-true, eq-eqb}
use Rattle.pipe_schema.specs.Rows.{Row, eq_row, times, Same}
use Rattle.pipe_schema.specs.Weights.{total}
use Rattle.pipe_schema.proofs.Weights.{total-append, total-flat_map, SameBag, Same-from_bag}
use Rattle.pipe_view.specs.Codes.{GroupRows, GroupList, no_rows, group_rows, group_at, rows_in, side_rows, with_group_rows, group_with, group_without, HasGroup, Code, code_cmp}
use Rattle.pipe_view.specs.Held.{HaveWidth}
use Rattle.pipe_view.proofs.Tests.{all-first, all-last}

-- a sum over entries is one over their values
pub total-values : (f : GroupRows → ℕ) (groups : GroupList) → total (λ e. f e.1) groups ≡ sum_by f (values_of groups)
total-values f [] = refl
total-values f (e ∷ groups) = ap (λ n. f e.1 + n) (total-values f groups) ∙ sym (sum_by-cons f e.1 (values_of groups))

-- the rows of a side by groups
pub total-side : (right_built : Bool) (w : Row → ℕ) (groups : GroupList) → total w (side_rows right_built groups) ≡ sum_by (λ g. total w (group_rows right_built g)) (values_of groups)
total-side right_built w groups = total-flat_map (rows_in right_built) w groups ∙ total-values (λ g. total w (group_rows right_built g)) groups

-- ---- widths

-- a row of another width weighs one
abbrev pub misfit : ℕ → Row → ℕ
misfit width row = cond (eqb (length row) width) 0 1

pub misfits-none : (width : ℕ) (rows : List Row) → HaveWidth width rows → total (misfit width) rows ≡ 0
misfits-none width [] h = refl
misfits-none width (row ∷ rows) h = let fits : misfit width row ≡ 0 = ap (λ b. let n : ℕ = cond b 0 1 in n) (eq-eqb (length row) width h.0) in omega (arith, fits, misfits-none width rows h.1)

pub wide-from_none : (width : ℕ) (rows : List Row) → total (misfit width) rows ≡ 0 → HaveWidth width rows
wide-from_none width [] h = tt
wide-from_none width (row ∷ rows) h =
    let split : (t : Bool) → eqb (length row) width ≡ t → cond t 0 1 + total (misfit width) rows ≡ 0 → (length row ≡ width) × HaveWidth width rows =
    elim [ true ↦ λ e z. (eqb-true (length row) width e, wide-from_none width rows (omega (arith, z))) | false ↦ λ e z. absurd (omega (arith, z)) ]
    in split (eqb (length row) width) refl h

pub wide-at : (right_built : Bool) (width : ℕ) (c : Code) (groups : GroupList) → HaveWidth width (side_rows right_built groups) → HaveWidth width (group_rows right_built (group_at c groups))
wide-at true width c [] h = tt
wide-at false width c [] h = tt
wide-at right_built width c (e ∷ groups) h =
    elim (is_at (code_cmp c) e.0) as (λ t. HaveWidth width (group_rows right_built (unwrap_or (cond t (Some e.1) (lookup (is_at (code_cmp c)) groups)) no_rows)))
    [ true ↦ all-first _ (group_rows right_built e.1) (side_rows right_built groups) h | false ↦ wide-at right_built width c groups (all-last _ (group_rows right_built e.1) (side_rows right_built groups) h) ]

pub length-total : {X : Type 0} (xs : List X) → length xs ≡ total (λ x. 1) xs
length-total [] = refl
length-total (x ∷ xs) = omega (arith, length-total xs)

-- ---- one row more in a group

pub weigh-with : (right_built : Bool) (w : Row → ℕ) (row : Row) (g : GroupRows) → total w (group_rows right_built (group_with right_built row g)) ≡ total w (group_rows right_built g) + w row
weigh-with true w row g = omega (arith, total-append w g.left (row ∷ []))
weigh-with false w row g = omega (arith, total-append w g.right (row ∷ []))

pub weigh-other : (right_built : Bool) (w : Row → ℕ) (row : Row) (g : GroupRows) → total w (group_rows (not right_built) (group_with right_built row g)) ≡ total w (group_rows (not right_built) g)
weigh-other true w row g = refl
weigh-other false w row g = refl

no-weight : (right_built : Bool) (w : Row → ℕ) → total w (group_rows right_built no_rows) ≡ 0
no-weight true w = refl
no-weight false w = refl

-- the edited side has the row more, and the other side is as it was
pub own-sums : (right_built : Bool) (c : Code) (row : Row) (before after : GroupList) → HasGroup c (group_with right_built row (group_at c before)) before after → (w : Row → ℕ) → total w (side_rows right_built after) ≡ total w (side_rows right_built before) + w row
own-sums right_built c row before after h w =
    let sums = h.sums (λ g. total w (group_rows right_built g)) (no-weight right_built w) in
    omega (arith, sums, total-side right_built w after, total-side right_built w before, weigh-with right_built w row (group_at c before))

pub other-sums : (right_built : Bool) (c : Code) (row : Row) (before after : GroupList) → HasGroup c (group_with right_built row (group_at c before)) before after → (w : Row → ℕ) → total w (side_rows (not right_built) after) ≡ total w (side_rows (not right_built) before)
other-sums right_built c row before after h w =
    let sums = h.sums (λ g. total w (group_rows (not right_built) g)) (no-weight (not right_built) w) in
    omega (arith, sums, total-side (not right_built) w after, total-side (not right_built) w before, weigh-other right_built w row (group_at c before))
