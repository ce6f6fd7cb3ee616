-- A view after a row was taken out of one of its groups.
use Rattle.std.proofs.Common.{◌≡◌, ℕ, zero, suc, ◌+◌, ◌≤◌, ◌<◌, Bool, true, false, cond, List, [], ◌∷◌, ◌++◌, map, length, take, drop, get_or, refl, ap, sym, ◌∙◌, subst, arith, append-nil, inl, inr}
use Rattle.std.specs.Prelude.{not, ◌&&◌, sum_by, filter}
use Rattle.std.specs.List.{remove, flat_map, list_any, AllByRecursion}
use Rattle.std.specs.Map.{values_of}
use Rattle.pipe_schema.specs.Rows.{Row, Same}
use Rattle.pipe_schema.specs.declared.field.Field.{Field}
use Rattle.pipe_schema.specs.Weights.{total}
use Rattle.pipe_schema.proofs.Weights.{total-append, SameBag, Same-from_bag}
use Rattle.pipe_expr.specs.Formula.{formulas_of}
use Rattle.pipe_expr.specs.declared.expr.Expr.{Expr}
use Rattle.pipe_expr.specs.Joins.{Join, join_rows}
use Rattle.pipe_expr.specs.Shares.{all_shares}
use Rattle.pipe_plan.specs.Schemas.{join_over}
use Rattle.pipe_plan.specs.declared.ir.JoinOptions.{JoinOptions}
use Rattle.pipe_view.specs.Kept.{Kept, kept_join, view_rows, with_row, IsSameView, IsDelta, IsWithin, StandApart}
use Rattle.pipe_view.specs.Sides.{is_view_kind}
use Rattle.pipe_view.specs.Changes.{comes, goes, pairs_that_come, paddings_that_go, own_padding, met_by_row, rows_that_come, rows_that_go}
use Rattle.pipe_view.specs.Codes.{GroupRows, GroupList, no_rows, group_rows, group_at, side_rows, group_without, row_code, HaveCode, IsPlaced, AreSorted, ArePlaced, HasGroup, Code}
use Rattle.pipe_view.specs.Joined.{group_join}
use Rattle.pipe_view.specs.Held.{kept_in, HaveWidth, AreCounted, IsHeld, counts_with}
use Rattle.pipe_view.specs.declared.counts.Counts.{Counts}
use Rattle.pipe_view.specs.declared.delta.Delta.{Delta}
use Rattle.pipe_view.specs.declared.side.ViewSide.{ViewSide}
use Rattle.pipe_view.specs.declared.side.ViewSide.TheVariants as side
use Rattle.pipe_view.proofs.Tests.{all-append, all-first, all-last}
use Rattle.pipe_view.proofs.Changing.{uncovers_beside, row-more}
use Rattle.pipe_view.proofs.Placing.{group-by_side, placed-at}
use Rattle.pipe_view.proofs.Weighing.{total-side, misfit, misfits-none, wide-from_none, wide-at, length-total}
use Rattle.pipe_view.proofs.Apart.{FitWidths, stand-apart}
use Rattle.pipe_view.proofs.Putting.{join-changed, no-join, join-sums}
use Rattle.pipe_view.proofs.Local.{weight-in}

-- a list about one of its places
pub around : {X : Type 0} (xs : List X) (i : ℕ) (x d : X) → i < length xs → get_or xs i d ≡ x → xs ≡ take i xs ++ x ∷ drop (suc i) xs
around [] i x d h e = absurd (omega (arith, h))
around (y ∷ xs) zero x d h e = ap (λ z. z ∷ xs) e
around (y ∷ xs) (suc i) x d h e = ap (λ l. y ∷ l) (around xs i x d (omega (arith, h)) e)

none-weighs : (right_built : Bool) (w : Row → ℕ) → total w (group_rows right_built no_rows) ≡ 0
none-weighs true w = refl
none-weighs false w = refl

-- the other rows of a side of a group
abbrev pub first_rows : (right_built : Bool) → ℕ → GroupRows → List Row
first_rows right_built i g = take i (group_rows right_built g)

abbrev pub last_rows : (right_built : Bool) → ℕ → GroupRows → List Row
last_rows right_built i g = drop (suc i) (group_rows right_built g)

own-without : (right_built : Bool) (i : ℕ) (g : GroupRows) → group_rows right_built (group_without right_built i g) ≡ first_rows right_built i g ++ last_rows right_built i g
own-without true i g = refl
own-without false i g = refl

other-without : (right_built : Bool) (i : ℕ) (g : GroupRows) → group_rows (not right_built) (group_without right_built i g) ≡ group_rows (not right_built) g
other-without true i g = refl
other-without false i g = refl

code-without : (j : Join) (right_built : Bool) (c : Code) (i : ℕ) (row : Row) (g : GroupRows) → group_rows right_built g ≡ first_rows right_built i g ++ row ∷ last_rows right_built i g → IsPlaced j (c, g) → IsPlaced j (c, group_without right_built i g)
code-without j true c i row g e h =
    let P : Row → Type 0 = λ r. row_code j true r ≡ c in
    let all = subst (AllByRecursion P) e h.left in
    record { left = all-append P (first_rows true i g) (last_rows true i g) (all-first P (first_rows true i g) (row ∷ last_rows true i g) all) (all-last P (first_rows true i g) (row ∷ last_rows true i g) all).1; right = h.right }
code-without j false c i row g e h =
    let P : Row → Type 0 = λ r. row_code j false r ≡ c in
    let all = subst (AllByRecursion P) e h.right in
    record { left = h.left; right = all-append P (first_rows false i g) (last_rows false i g) (all-first P (first_rows false i g) (row ∷ last_rows false i g) all) (all-last P (first_rows false i g) (row ∷ last_rows false i g) all).1 }

-- no more rows go than come
more-pass : {X : Type 0} (p q : X → Bool) (xs : List X) → ((x : X) → p x ≡ true → q x ≡ true) → length (filter p xs) ≤ length (filter q xs)
more-pass p q [] h = omega arith
more-pass p q (x ∷ xs) h =
    let rest = more-pass p q xs h in
    let split : (t : Bool) → p x ≡ t → (r : Bool) → q x ≡ r → length (cond t (x ∷ filter p xs) (filter p xs)) ≤ length (cond r (x ∷ filter q xs) (filter q xs)) =
    elim [
      | true ↦ λ e. elim [ true ↦ λ f. omega (arith, rest) | false ↦ λ f. (let clash : true ≡ false = sym (h x e) ∙ f in cc) ]
      | false ↦ λ e. elim [ true ↦ λ f. omega (arith, rest) | false ↦ λ f. rest ]
    ]
    in split (p x) refl (q x) refl

goes-comes : (u h : Bool) → (u && not h) ≡ true → not (u && h) ≡ true
goes-comes true true e = e
goes-comes true false e = refl
goes-comes false h e = refl

long-map : {X Y : Type 0} (f : X → Y) (xs : List X) → length (map f xs) ≡ length xs
long-map f [] = refl
long-map f (x ∷ xs) = omega (arith, long-map f xs)

pub fewer-go : (j : Join) (right_built u : Bool) (p : Row) (built : List Row) → length (rows_that_go j right_built u p built) ≤ length (rows_that_come j right_built u p built)
fewer-go j right_built u p built =
    let met = met_by_row j right_built p built in
    let more = more-pass (goes j right_built u p) (comes j right_built u p) met (λ b. goes-comes u _) in
    let go = long-map (λ b. b) (filter (goes j right_built u p) met) in
    let paddings = long-map _ (filter (goes j right_built u p) met) in
    let pairs = long-map _ (filter (comes j right_built u p) met) in
    let both = length-total (rows_that_come j right_built u p built) in
    let parts = total-append (λ r. 1) (pairs_that_come j right_built u p met) (own_padding j right_built p met) in
    let come = length-total (pairs_that_come j right_built u p met) in
    let gone : length (rows_that_go j right_built u p built) ≡ length (filter (goes j right_built u p) met) = paddings in
    let came : length (pairs_that_come j right_built u p met) ≡ length (filter (comes j right_built u p) met) = pairs in
    omega (arith, more, gone, came, both, parts, come)

module _ (j : Join) (kind : is_view_kind j.how ≡ true) (right_built : Bool) (c : Code) (i : ℕ) (row : Row) where
  -- a group about one of its rows
  abbrev pub IsAround : GroupRows → Type 0
  IsAround g = group_rows right_built g ≡ first_rows right_built i g ++ row ∷ last_rows right_built i g

  abbrev pub uncovers : GroupRows → Bool
  uncovers g = uncovers_beside j right_built row (first_rows right_built i g ++ last_rows right_built i g)

  abbrev pub come : GroupRows → List Row
  come g = rows_that_come j right_built (uncovers g) row (group_rows (not right_built) g)

  abbrev pub go : GroupRows → List Row
  go g = rows_that_go j right_built (uncovers g) row (group_rows (not right_built) g)

  pub group-less : (g : GroupRows) → IsAround g → (w : Row → ℕ) → total w (group_join j g) + total w (go g) ≡ total w (group_join j (group_without right_built i g)) + total w (come g)
  group-less g e w =
      let built = group_rows (not right_built) g in
      let before = group-by_side j right_built w g kind in
      let after = group-by_side j right_built w (group_without right_built i g) kind in
      let whole = ap (λ l. total w (all_shares j right_built l built)) e in
      let left = ap (λ l. total w (all_shares j right_built l (group_rows (not right_built) (group_without right_built i g)))) (own-without right_built i g) in
      let right = ap (λ l. total w (all_shares j right_built (first_rows right_built i g ++ last_rows right_built i g) l)) (other-without right_built i g) in
      let law = row-more j right_built row kind (first_rows right_built i g) (last_rows right_built i g) built w in
      omega (arith, before, after, whole, left, right, law)

  module _ (before after : GroupList) (sb : AreSorted before) (sa : AreSorted after) (placed : ArePlaced j before)
      (around : IsAround (group_at c before)) (has : HasGroup c (group_without right_built i (group_at c before)) before after) where
    pub less-placed : ArePlaced j after
    less-placed = has.placed j placed (code-without j right_built c i row (group_at c before) around (placed-at j c before placed))

    pub join-less : (w : Row → ℕ) →
        total w (join_rows j (side_rows true after) (side_rows false after)) + total w (come (group_at c before)) ≡ total w (join_rows j (side_rows true before) (side_rows false before)) + total w (go (group_at c before))
    join-less w =
        let changed = join-changed j kind c (group_without right_built i (group_at c before)) before after sb sa placed less-placed has w in
        let less = group-less (group_at c before) around w in
        omega (arith, changed, less)

    own-weight : (w : Row → ℕ) → total w (group_rows right_built (group_at c before)) ≡ total w (group_rows right_built (group_without right_built i (group_at c before))) + w row
    own-weight w =
        let g = group_at c before in
        let whole = ap (total w) around ∙ total-append w (first_rows right_built i g) (row ∷ last_rows right_built i g) in
        let rest = ap (total w) (own-without right_built i g) ∙ total-append w (first_rows right_built i g) (last_rows right_built i g) in
        omega (arith, whole, rest)

    pub own-less : (w : Row → ℕ) → total w (side_rows right_built before) ≡ total w (side_rows right_built after) + w row
    own-less w =
        let sums = has.sums (λ g. total w (group_rows right_built g)) (none-weighs right_built w) in
        omega (arith, sums, total-side right_built w after, total-side right_built w before, own-weight w)

    pub other-less : (w : Row → ℕ) → total w (side_rows (not right_built) before) ≡ total w (side_rows (not right_built) after)
    other-less w =
        let sums = has.sums (λ g. total w (group_rows (not right_built) g)) (none-weighs (not right_built) w) in
        let same = ap (total w) (other-without right_built i (group_at c before)) in
        omega (arith, sums, total-side (not right_built) w after, total-side (not right_built) w before, same)

turned : (a b : List Row) → StandApart a b → StandApart b a
turned a b h = λ z. elim (h z) [ inl x ↦ inr x | inr y ↦ inl y ]

wide-less : (width : ℕ) (row : Row) (a b : List Row) → total (misfit width) b ≡ total (misfit width) a + misfit width row → HaveWidth width b → HaveWidth width a
wide-less width row a b e h = let old = misfits-none width b h in wide-from_none width a (omega (arith, e, old))

wide-same : (width : ℕ) (a b : List Row) → total (misfit width) b ≡ total (misfit width) a → HaveWidth width b → HaveWidth width a
wide-same width a b e h = wide-from_none width a (sym e ∙ misfits-none width b h)

shorter : (row : Row) (a b : List Row) → ((w : Row → ℕ) → total w b ≡ total w a + w row) → length b ≡ length a + 1
shorter row a b h = let one = h (λ x. 1) in omega (arith, one, length-total a, length-total b)

as-long : (a b : List Row) → ((w : Row → ℕ) → total w b ≡ total w a) → length b ≡ length a
as-long a b h = let same = h (λ x. 1) in omega (arith, same, length-total a, length-total b)

same-less : (row : Row) (a b : List Row) → ((w : Row → ℕ) → total w b ≡ total w a + w row) → Same b (a ++ row ∷ [])
same-less row a b h = Same-from_bag (record { sums = λ w. (let e = h w in let more = total-append w a (row ∷ []) in omega (arith, e, more)) })

same-as : (a b : List Row) → ((w : Row → ℕ) → total w b ≡ total w a) → Same b a
same-as a b h = Same-from_bag (record { sums = h })

-- what a row taken out has done
pub record IsTaken (which : ViewSide) (row : Row) (schema : List Field) (before after : Kept) (groups : GroupList) (counts : Counts) (delta : Delta) : Type 0 where
  pub held : IsHeld after schema groups counts
  pub same : IsSameView before (with_row which row after)
  pub tells : IsDelta (view_rows before) (view_rows after) delta

module _ (left right : List Field) (left_on right_on : List Expr) (options : JoinOptions) (limit : ℕ) (c : Code) (i : ℕ) (row : Row) (schema : List Field) (before after : GroupList) (counts : Counts) (own rows : ℕ) (delta : Delta) where
  abbrev pub at : GroupList → Kept
  at groups = kept_in left right left_on right_on options limit groups

  abbrev pub over : Join
  over = join_over left right (formulas_of left_on) (formulas_of right_on) options

  abbrev pub g : GroupRows
  g = group_at c before

  module _ (held : IsHeld (at before) schema before counts) (sb : AreSorted before) (sa : AreSorted after) where
    module _ (right_built : Bool) (about : IsAround over held.kind right_built c i row g) (has : HasGroup c (group_without right_built i g) before after)
        (plus : delta.plus ≡ go over held.kind right_built c i row g) (minus : delta.minus ≡ come over held.kind right_built c i row g) where
      less-sums : (w : Row → ℕ) → total w (view_rows (at after)) + total w delta.minus ≡ total w (view_rows (at before)) + total w delta.plus
      less-sums w =
          let law = join-less over held.kind right_built c i row before after sb sa held.placed about has w in
          let came = ap (total w) minus in
          let gone = ap (total w) plus in
          omega (arith, law, came, gone)

      less-count : length (view_rows (at after)) + length delta.minus ≡ length (view_rows (at before)) + length delta.plus
      less-count =
          let e = less-sums (λ x. 1) in
          omega (arith, e, length-total (view_rows (at after)), length-total delta.minus, length-total (view_rows (at before)), length-total delta.plus)

      less-plus : length delta.plus ≤ length delta.minus
      less-plus =
          let few = fewer-go over right_built (uncovers over held.kind right_built c i row g) row (group_rows (not right_built) g) in
          let came = ap length minus in
          let gone = ap length plus in
          omega (arith, few, came, gone)

      less-tells : FitWidths over right_built row (group_rows (not right_built) g) → IsDelta (view_rows (at before)) (view_rows (at after)) delta
      less-tells wide = record {
        sum = Same-from_bag (record { sums = λ w. (let e = less-sums w in let a = total-append w (view_rows (at after)) delta.minus in let b = total-append w (view_rows (at before)) delta.plus in omega (arith, e, a, b)) });
        apart = subst (λ l. StandApart l delta.minus) (sym plus) (subst (StandApart (go over held.kind right_built c i row g)) (sym minus)
            (turned (come over held.kind right_built c i row g) (go over held.kind right_built c i row g) (stand-apart over right_built row (uncovers over held.kind right_built c i row g) (group_rows (not right_built) g) wide)));
      }

    -- the row is taken out of the left table
    pub take-left : (about : IsAround over held.kind true c i row g) → HasGroup c (group_without true i g) before after →
        delta.plus ≡ go over held.kind true c i row g → delta.minus ≡ come over held.kind true c i row g →
        rows + length delta.minus ≡ counts.rows + length delta.plus → own + 1 ≡ counts.left →
        IsTaken side.Left row schema (at before) (at after) after (counts_with true own rows counts) delta
    take-left about has plus minus more one =
        let left_sums = own-less over held.kind true c i row before after sb sa held.placed about has in
        let right_sums = other-less over held.kind true c i row before after sb sa held.placed about has in
        let count = less-count true about has plus minus in
        let few = less-plus true about has plus minus in
        let total_rows : rows ≡ length (view_rows (at after)) = omega (arith, count, more, (held.counted).rows) in
        let long = shorter row (side_rows true after) (side_rows true before) left_sums in
        let own_rows : own ≡ length (side_rows true after) = omega (arith, one, (held.counted).left, long) in
        let other_rows = as-long (side_rows false after) (side_rows false before) right_sums in
        let in_group = subst (HaveWidth (length left)) about (wide-at true (length left) c before held.left_wide) in
        let width = (all-last (λ r. length r ≡ length left) (first_rows true i g) (row ∷ last_rows true i g) in_group).0 in
        record {
          held = record {
            fields = held.fields;
            kind = held.kind;
            sorted = sa;
            placed = less-placed over held.kind true c i row before after sb sa held.placed about has;
            left_wide = wide-less (length left) row (side_rows true after) (side_rows true before) (left_sums (misfit (length left))) held.left_wide;
            right_wide = wide-same (length right) (side_rows false after) (side_rows false before) (right_sums (misfit (length right))) held.right_wide;
            counted = record { left = own_rows; right = (held.counted).right ∙ other_rows; rows = total_rows };
            within = record { left = (let was = (held.within).left in omega (arith, was, long)); right = (let was = (held.within).right in omega (arith, was, other_rows)); rows = (let was = (held.within).rows in omega (arith, was, few, count)) };
          };
          same = record {
            left_schema = refl;
            right_schema = refl;
            left_on = refl;
            right_on = refl;
            options = refl;
            limit = refl;
            left = same-less row (side_rows true after) (side_rows true before) left_sums;
            right = same-as (side_rows false after) (side_rows false before) right_sums;
          };
          tells = less-tells true about has plus minus width;
        }

    -- the row is taken out of the right table
    pub take-right : (about : IsAround over held.kind false c i row g) → HasGroup c (group_without false i g) before after →
        delta.plus ≡ go over held.kind false c i row g → delta.minus ≡ come over held.kind false c i row g →
        rows + length delta.minus ≡ counts.rows + length delta.plus → own + 1 ≡ counts.right →
        IsTaken side.Right row schema (at before) (at after) after (counts_with false own rows counts) delta
    take-right about has plus minus more one =
        let right_sums = own-less over held.kind false c i row before after sb sa held.placed about has in
        let left_sums = other-less over held.kind false c i row before after sb sa held.placed about has in
        let count = less-count false about has plus minus in
        let few = less-plus false about has plus minus in
        let total_rows : rows ≡ length (view_rows (at after)) = omega (arith, count, more, (held.counted).rows) in
        let long = shorter row (side_rows false after) (side_rows false before) right_sums in
        let own_rows : own ≡ length (side_rows false after) = omega (arith, one, (held.counted).right, long) in
        let other_rows = as-long (side_rows true after) (side_rows true before) left_sums in
        record {
          held = record {
            fields = held.fields;
            kind = held.kind;
            sorted = sa;
            placed = less-placed over held.kind false c i row before after sb sa held.placed about has;
            left_wide = wide-same (length left) (side_rows true after) (side_rows true before) (left_sums (misfit (length left))) held.left_wide;
            right_wide = wide-less (length right) row (side_rows false after) (side_rows false before) (right_sums (misfit (length right))) held.right_wide;
            counted = record { left = (held.counted).left ∙ other_rows; right = own_rows; rows = total_rows };
            within = record { left = (let was = (held.within).left in omega (arith, was, other_rows)); right = (let was = (held.within).right in omega (arith, was, long)); rows = (let was = (held.within).rows in omega (arith, was, few, count)) };
          };
          same = record {
            left_schema = refl;
            right_schema = refl;
            left_on = refl;
            right_on = refl;
            options = refl;
            limit = refl;
            left = same-as (side_rows true after) (side_rows true before) left_sums;
            right = same-less row (side_rows false after) (side_rows false before) right_sums;
          };
          tells = less-tells false about has plus minus (wide-at true (length left) c before held.left_wide);
        }

-- ---- before the edit: the rows that go are there

module _ (left right : List Field) (left_on right_on : List Expr) (options : JoinOptions) (limit : ℕ) (schema : List Field) (groups : GroupList) (counts : Counts)
    (held : IsHeld (kept_in left right left_on right_on options limit groups) schema groups counts) (sorted : AreSorted groups) where
  abbrev whole : Join
  whole = join_over left right (formulas_of left_on) (formulas_of right_on) options

  -- the rows of a group are among those of the view
  pub group-within : (c : Code) → total (λ r. 1) (group_join whole (group_at c groups)) ≤ counts.rows
  group-within c =
      let in_all = weight-in (λ x. total (λ r. 1) (group_join whole x)) (no-join whole (λ r. 1)) c groups in
      let all = join-sums whole held.kind (λ r. 1) groups sorted held.placed in
      let long = length-total (join_rows whole (side_rows true groups) (side_rows false groups)) in
      omega (arith, in_all, all, long, (held.counted).rows)

  -- the rows of a side of a group are among those of the side
  pub side-within : (right_built : Bool) (c : Code) → length (group_rows right_built (group_at c groups)) ≤ length (side_rows right_built groups)
  side-within right_built c =
      let in_all = weight-in (λ x. total (λ r. 1) (group_rows right_built x)) (none-weighs right_built (λ r. 1)) c groups in
      omega (arith, in_all, total-side right_built (λ r. 1) groups, length-total (group_rows right_built (group_at c groups)), length-total (side_rows right_built groups))
