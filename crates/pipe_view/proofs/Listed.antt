-- Edits that are played: tables and rows as bags, and what rows lie beyond others.
use Rattle.std.proofs.Common.{◌≡◌, ◌==◌, ℕ, ◌+◌, ◌-◌, ◌≤◌, ◌<◌, Bool, true, false, cond, List, [], ◌∷◌, ◌++◌, length, if◌then◌else◌, inl, inr, refl, ap, sym, ◌∙◌, subst, arith}
use Rattle.std.proofs.lemmas.Bool.{ne_eqb}
use Rattle.pipe_schema.specs.Rows.{Row, Same, eq_row, times}
use Rattle.pipe_schema.specs.Weights.{total}
use Rattle.pipe_schema.proofs.Weights.{SameBag, SameBag-from_rows, Same-from_bag, eq_row-sound}
use Rattle.pipe_expr.specs.Joins.{join_rows}
use Rattle.pipe_view.specs.Kept.{Kept, kept_join, view_rows, times_on, with_row, IsSameView, IsDelta, IsOver, IsWithin}
use Rattle.pipe_view.specs.Played.{after_kind, beyond, changed, outcome_by, without_first, without_row}
use Rattle.pipe_view.specs.Refusals.{IsRemoveRefusal}
use Rattle.pipe_view.specs.Sides.{is_view_kind}
use Rattle.pipe_view.specs.declared.error.ViewError.{ViewError}
use Rattle.pipe_view.specs.declared.error.ViewError.TheVariants as refusal
use Rattle.pipe_view.specs.declared.delta.Delta.{Delta}
use Rattle.pipe_view.specs.declared.row_edit.EditKind.{EditKind}
use Rattle.pipe_view.specs.declared.row_edit.EditKind.TheVariants as kind
use Rattle.pipe_view.specs.declared.row_edit.Outcome.{Outcome}
use Rattle.pipe_view.specs.declared.row_edit.Outcome.TheVariants as outcome
use Rattle.pipe_view.specs.declared.side.ViewSide.{ViewSide}
use Rattle.pipe_view.specs.declared.side.ViewSide.TheVariants as side
use Rattle.pipe_view.proofs.Growing.{join-alike, join-same}
use Rattle.pipe_view.proofs.Weighing.{length-total}

-- ---- how often a row stands

abbrev pub one : Row → Row → ℕ
one z x = if eq_row z x then 1 else 0

many-append : (z : Row) (a b : List Row) → times eq_row z (a ++ b) ≡ times eq_row z a + times eq_row z b
many-append z [] b = omega arith
many-append z (x ∷ a) b = omega (arith, many-append z a b)

-- a row like x is like y only where x is
one-other : (z x y : Row) → eq_row x y ≡ false → one z x + one z y ≤ 1
one-other z x y apart =
    let split : (s t : Bool) → eq_row z x ≡ s → eq_row z y ≡ t → cond s 1 0 + cond t 1 0 ≤ 1 =
    elim [
      | true ↦ elim [ true ↦ λ e f. (let same : eq_row x y ≡ true = ap (λ r. eq_row r y) (sym (eq_row-sound z x e)) ∙ f in let clash : true ≡ false = sym same ∙ apart in cc) | false ↦ λ e f. omega arith ]
      | false ↦ elim [ true ↦ λ e f. omega arith | false ↦ λ e f. omega arith ]
    ]
    in split (eq_row z x) (eq_row z y) refl refl

-- one that is like x is like what x is like
one-same : (z x y : Row) → eq_row x y ≡ true → one z y ≡ one z x
one-same z x y same = ap (one z) (sym (eq_row-sound x y same))

pub less-first : (z x : Row) (rows : List Row) → times eq_row z (without_first x rows) ≡ times eq_row z rows - one z x
less-first z x [] = omega arith
less-first z x (y ∷ rows) =
    let split : (t : Bool) → eq_row x y ≡ t → times eq_row z (cond t rows (y ∷ without_first x rows)) ≡ (one z y + times eq_row z rows) - one z x =
    elim [
      | true ↦ λ e. (let same = one-same z x y e in omega (arith, same))
      | false ↦ λ e. (let few = one-other z x y e in let rest = less-first z x rows in omega (arith, few, rest))
    ]
    in split (eq_row x y) refl

pub beyond-times : (z : Row) (rows others : List Row) → times eq_row z (beyond rows others) ≡ times eq_row z rows - times eq_row z others
beyond-times z rows [] = omega arith
beyond-times z rows (x ∷ others) = let rest = beyond-times z (without_first x rows) others in let first = less-first z x rows in omega (arith, rest, first)

pub as-long : (a b : List Row) → Same a b → length a ≡ length b
as-long a b h = let same = (SameBag-from_rows h).sums (λ r. 1) in omega (arith, same, length-total a, length-total b)

beyond-alike : (a b c d : List Row) → Same a b → Same c d → length (beyond a c) ≡ length (beyond b d)
beyond-alike a b c d h k = as-long (beyond a c) (beyond b d) (record { each = λ z. (let l = beyond-times z a c in let r = beyond-times z b d in let s = h.each z in let t = k.each z in omega (arith, l, r, s, t)) })

-- ---- what a delta tells

plus-times : (z : Row) (before after : List Row) (d : Delta) → IsDelta before after d → times eq_row z d.plus ≡ times eq_row z after - times eq_row z before
plus-times z before after d h =
    let sum = h.sum.each z in
    let l = many-append z after d.minus in
    let r = many-append z before d.plus in
    elim (h.apart z) [ inl p ↦ omega (arith, sum, l, r, p) | inr m ↦ omega (arith, sum, l, r, m) ]

minus-times : (z : Row) (before after : List Row) (d : Delta) → IsDelta before after d → times eq_row z d.minus ≡ times eq_row z before - times eq_row z after
minus-times z before after d h =
    let sum = h.sum.each z in
    let l = many-append z after d.minus in
    let r = many-append z before d.plus in
    elim (h.apart z) [ inl p ↦ omega (arith, sum, l, r, p) | inr m ↦ omega (arith, sum, l, r, m) ]

plus-long : (before after : List Row) (d : Delta) → IsDelta before after d → length d.plus ≡ length (beyond after before)
plus-long before after d h = as-long d.plus (beyond after before) (record { each = λ z. plus-times z before after d h ∙ sym (beyond-times z after before) })

minus-long : (before after : List Row) (d : Delta) → IsDelta before after d → length d.minus ≡ length (beyond before after)
minus-long before after d h = as-long d.minus (beyond before after) (record { each = λ z. minus-times z before after d h ∙ sym (beyond-times z before after) })

-- ---- views with the same tables

same-refl : (a : List Row) → Same a a
same-refl a = record { each = λ z. refl }

pub rows-same : (a b : Kept) → IsSameView a b → is_view_kind b.options.how ≡ true → Same (view_rows a) (view_rows b)
rows-same a b h k = Same-from_bag (record {
  sums = λ w. (
      let join = ap (λ j. total w (join_rows j a.left.rows a.right.rows)) (join-same a b h) in
      let same = join-alike (kept_join b) k a.left.rows b.left.rows a.right.rows b.right.rows (SameBag-from_rows h.left) (SameBag-from_rows h.right) w in
      join ∙ same);
})

pub changed-told : (before now after : Kept) (d : Delta) → IsDelta (view_rows before) (view_rows now) d → IsSameView now after → is_view_kind after.options.how ≡ true → outcome.Changed (length d.plus) (length d.minus) ≡ changed before after
changed-told before now after d h same kind =
    let rows = rows-same now after same kind in
    let p = plus-long (view_rows before) (view_rows now) d h ∙ beyond-alike (view_rows now) (view_rows after) (view_rows before) (view_rows before) rows (same-refl (view_rows before)) in
    let m = minus-long (view_rows before) (view_rows now) d h ∙ beyond-alike (view_rows before) (view_rows before) (view_rows now) (view_rows after) (same-refl (view_rows before)) rows in
    ap (λ x. outcome.Changed x (length d.minus)) p ∙ ap (λ y. outcome.Changed (length (beyond (view_rows after) (view_rows before))) y) m

-- a row taken out
less-one : (a b : List Row) (row : Row) → Same a (b ++ row ∷ []) → Same b (without_first row a)
less-one a b row h = record {
  each = λ z. (
      let all = h.each z in
      let more = many-append z b (row ∷ []) in
      let less = less-first z row a in
      omega (arith, all, more, less));
}

pub taken-out : (which : ViewSide) (row : Row) (before after : Kept) → IsSameView before (with_row which row after) → IsSameView after (without_row which row before)
taken-out side.Left row before after h = record { left_schema = sym h.left_schema; right_schema = sym h.right_schema; left_on = sym h.left_on; right_on = sym h.right_on; options = sym h.options; limit = sym h.limit; left = less-one before.left.rows after.left.rows row h.left; right = record { each = λ z. sym (h.right.each z) } }
taken-out side.Right row before after h = record { left_schema = sym h.left_schema; right_schema = sym h.right_schema; left_on = sym h.left_on; right_on = sym h.right_on; options = sym h.options; limit = sym h.limit; left = record { each = λ z. sym (h.left.each z) }; right = less-one before.right.rows after.right.rows row h.right }

kind-with : (which : ViewSide) (row : Row) (v : Kept) → is_view_kind v.options.how ≡ true → is_view_kind (with_row which row v).options.how ≡ true
kind-with side.Left row v k = k
kind-with side.Right row v k = k

kind-without : (which : ViewSide) (row : Row) (v : Kept) → is_view_kind v.options.how ≡ true → is_view_kind (without_row which row v).options.how ≡ true
kind-without side.Left row v k = k
kind-without side.Right row v k = k

pub inserted-told : (which : ViewSide) (row : Row) (before now : Kept) (d : Delta) → is_view_kind before.options.how ≡ true → IsSameView now (with_row which row before) → IsDelta (view_rows before) (view_rows now) d → outcome.Changed (length d.plus) (length d.minus) ≡ outcome_by kind.Insert which row before
inserted-told which row before now d k same h = changed-told before now (with_row which row before) d h same (kind-with which row before k)

some-times : (n : ℕ) → 0 < n → (n == 0) ≡ false
some-times n h = ne_eqb n 0 (λ e. omega (arith, e, h))

pub removed-told : (which : ViewSide) (row : Row) (before now : Kept) (d : Delta) → is_view_kind before.options.how ≡ true → IsSameView before (with_row which row now) → IsDelta (view_rows before) (view_rows now) d → 0 < times_on which row before → outcome.Changed (length d.plus) (length d.minus) ≡ outcome_by kind.Remove which row before
removed-told which row before now d k same h there =
    let told = changed-told before now (without_row which row before) d h (taken-out which row before now same) (kind-without which row before k) in
    told ∙ ap (λ b. if b then outcome.Absent else changed before (without_row which row before)) (sym (some-times (times_on which row before) there))

pub absent-told : (which : ViewSide) (row : Row) (before : Kept) → times_on which row before ≡ 0 → outcome.Absent ≡ outcome_by kind.Remove which row before
absent-told which row before none =
    let P : ℕ → Outcome = λ n. if n == 0 then outcome.Absent else changed before (without_row which row before) in
    ap P (sym none)

-- no row like it: nothing is taken out
none-without : (z row : Row) (rows : List Row) → times eq_row row rows ≡ 0 → times eq_row z rows ≡ times eq_row z rows - one z row
none-without z row rows none =
    let split : (t : Bool) → eq_row z row ≡ t → times eq_row z rows ≡ times eq_row z rows - cond t 1 0 =
    elim [
      | true ↦ λ e. (let gone : times eq_row z rows ≡ 0 = ap (λ r. times eq_row r rows) (eq_row-sound z row e) ∙ none in omega (arith, gone))
      | false ↦ λ e. omega arith
    ]
    in split (eq_row z row) refl

same-without : (row : Row) (rows : List Row) → times eq_row row rows ≡ 0 → Same rows (without_first row rows)
same-without row rows none = record { each = λ z. none-without z row rows none ∙ sym (less-first z row rows) }

pub stays-absent : (which : ViewSide) (row : Row) (v : Kept) → times_on which row v ≡ 0 → IsSameView v (without_row which row v)
stays-absent side.Left row v none = record { left_schema = refl; right_schema = refl; left_on = refl; right_on = refl; options = refl; limit = refl; left = same-without row v.left.rows none; right = same-refl v.right.rows }
stays-absent side.Right row v none = record { left_schema = refl; right_schema = refl; left_on = refl; right_on = refl; options = refl; limit = refl; left = same-refl v.left.rows; right = same-without row v.right.rows none }

-- an outcome by the lengths of a delta's lists
pub told-lengths : (p m : ℕ) (d : Delta) (told : Outcome) → p ≡ length d.plus → m ≡ length d.minus → outcome.Changed (length d.plus) (length d.minus) ≡ told → outcome.Changed p m ≡ told
told-lengths p m d told e f h = ap (λ x. outcome.Changed x m) e ∙ ap (λ y. outcome.Changed (length d.plus) y) f ∙ h

-- a row that isn't there to be taken out
pub absent-none : (which : ViewSide) (row : Row) (v : Kept) (e : ViewError) → IsRemoveRefusal which row v e → e ≡ refusal.Absent → times_on which row v ≡ 0
absent-none which row v e (inl m) same = absurd (cc)
absent-none which row v e (inr h) same = h.1

-- ---- edits of views with the same tables

same-more : (a b : List Row) (row : Row) → Same a b → Same (a ++ row ∷ []) (b ++ row ∷ [])
same-more a b row h = record { each = λ z. (let s = h.each z in let l = many-append z a (row ∷ []) in let r = many-append z b (row ∷ []) in omega (arith, s, l, r)) }

same-less : (a b : List Row) (row : Row) → Same a b → Same (without_first row a) (without_first row b)
same-less a b row h = record { each = λ z. (let s = h.each z in let l = less-first z row a in let r = less-first z row b in omega (arith, s, l, r)) }

pub after-alike : (k : EditKind) (which : ViewSide) (row : Row) (a b : Kept) → IsSameView a b → IsSameView (after_kind k which row a) (after_kind k which row b)
after-alike kind.Insert side.Left row a b h = record { left_schema = h.left_schema; right_schema = h.right_schema; left_on = h.left_on; right_on = h.right_on; options = h.options; limit = h.limit; left = same-more a.left.rows b.left.rows row h.left; right = h.right }
after-alike kind.Insert side.Right row a b h = record { left_schema = h.left_schema; right_schema = h.right_schema; left_on = h.left_on; right_on = h.right_on; options = h.options; limit = h.limit; left = h.left; right = same-more a.right.rows b.right.rows row h.right }
after-alike kind.Remove side.Left row a b h = record { left_schema = h.left_schema; right_schema = h.right_schema; left_on = h.left_on; right_on = h.right_on; options = h.options; limit = h.limit; left = same-less a.left.rows b.left.rows row h.left; right = h.right }
after-alike kind.Remove side.Right row a b h = record { left_schema = h.left_schema; right_schema = h.right_schema; left_on = h.left_on; right_on = h.right_on; options = h.options; limit = h.limit; left = h.left; right = same-less a.right.rows b.right.rows row h.right }

pub kind-after : (k : EditKind) (which : ViewSide) (row : Row) (v : Kept) → is_view_kind v.options.how ≡ true → is_view_kind (after_kind k which row v).options.how ≡ true
kind-after kind.Insert which row v h = kind-with which row v h
kind-after kind.Remove which row v h = kind-without which row v h

changed-alike : (k : EditKind) (which : ViewSide) (row : Row) (a b : Kept) → IsSameView a b → is_view_kind b.options.how ≡ true → changed a (after_kind k which row a) ≡ changed b (after_kind k which row b)
changed-alike k which row a b h kept =
    let c = after_kind k which row a in
    let d = after_kind k which row b in
    let before = rows-same a b h kept in
    let after = rows-same c d (after-alike k which row a b h) (kind-after k which row b kept) in
    ap (λ x. outcome.Changed x (length (beyond (view_rows a) (view_rows c)))) (beyond-alike (view_rows c) (view_rows d) (view_rows a) (view_rows b) after before)
    ∙ ap (λ y. outcome.Changed (length (beyond (view_rows d) (view_rows b))) y) (beyond-alike (view_rows a) (view_rows b) (view_rows c) (view_rows d) before after)

times-alike : (which : ViewSide) (row : Row) (a b : Kept) → IsSameView a b → times_on which row a ≡ times_on which row b
times-alike side.Left row a b h = h.left.each row
times-alike side.Right row a b h = h.right.each row

pub outcome-alike : (k : EditKind) (which : ViewSide) (row : Row) (a b : Kept) → IsSameView a b → is_view_kind b.options.how ≡ true → outcome_by k which row a ≡ outcome_by k which row b
outcome-alike kind.Insert which row a b h kept = changed-alike kind.Insert which row a b h kept
outcome-alike kind.Remove which row a b h kept =
    ap (λ n. if n == 0 then outcome.Absent else changed a (without_row which row a)) (times-alike which row a b h)
    ∙ ap (λ o. if times_on which row b == 0 then outcome.Absent else o) (changed-alike kind.Remove which row a b h kept)

-- ---- limits

-- a view within its limit has no table and no rows beyond it
pub not-over : (now b : Kept) → IsSameView now b → is_view_kind b.options.how ≡ true → IsWithin now → IsOver b → ⊥
not-over now b h k w (inl o) = let same = as-long now.left.rows b.left.rows h.left in let most = h.limit in let few = w.left in omega (arith, o, same, most, few)
not-over now b h k w (inr (inl o)) = let same = as-long now.right.rows b.right.rows h.right in let most = h.limit in let few = w.right in omega (arith, o, same, most, few)
not-over now b h k w (inr (inr o)) = let same = as-long (view_rows now) (view_rows b) (rows-same now b h k) in let most = h.limit in let few = w.rows in omega (arith, o, same, most, few)

-- a row that was put in wasn't too much, and one that is taken out never is
pub insert-made : (k : EditKind) (which : ViewSide) (row : Row) (v now : Kept) → is_view_kind v.options.how ≡ true → k ≡ kind.Insert → IsSameView now (with_row which row v) → IsWithin now → (k ≡ kind.Insert) × IsOver (after_kind k which row v) → ⊥
insert-made k which row v now kept is same within much = not-over now (with_row which row v) same (kind-with which row v kept) within (subst (λ (x : EditKind). IsOver (after_kind x which row v)) is much.1)

pub remove-made : (k : EditKind) (A : Type 0) → k ≡ kind.Remove → (k ≡ kind.Insert) × A → ⊥
remove-made k A is much = let both : kind.Remove ≡ kind.Insert = sym is ∙ much.0 in cc
