-- A view after a row was put into one of its groups.
use Rattle.std.proofs.Common.{◌≡◌, ℕ, ◌+◌, ◌≤◌, ◌<◌, Bool, true, false, cond, List, [], ◌∷◌, ◌++◌, map, length, take, drop, suc, refl, ap, sym, ◌∙◌, subst, arith, append-nil}
use Rattle.std.specs.Prelude.{not, ◌&&◌, sum_by}
use Rattle.std.specs.List.{remove}
use Rattle.std.specs.List.{flat_map, list_any, AllByRecursion}
use Rattle.std.specs.Map.{values_of}
use Rattle.pipe_frame.specs.Frame.{Table}
use Rattle.pipe_schema.specs.Rows.{Row, Same}
use Rattle.pipe_schema.specs.declared.field.Field.{Field}
use Rattle.pipe_schema.specs.Weights.{total}
use Rattle.pipe_schema.proofs.Weights.{total-append, SameBag, Same-from_bag}
use Rattle.pipe_expr.specs.Formula.{formulas_of}
use Rattle.pipe_expr.specs.declared.expr.Expr.{Expr}
use Rattle.pipe_expr.specs.Joins.{Join, join_rows}
use Rattle.pipe_expr.specs.Shares.{all_shares}
use Rattle.pipe_plan.specs.Schemas.{join_over}
use Rattle.pipe_plan.specs.declared.ir.JoinOptions.{JoinOptions}
use Rattle.pipe_view.specs.Kept.{Kept, kept_join, view_rows, view_fields, rows_on, fields_on, with_row, IsSameView, IsDelta, IsWithin, StandApart}
use Rattle.pipe_view.specs.Sides.{right_is_built, is_view_kind, keeps_built, probed_key, has_probed_key}
use Rattle.pipe_view.specs.Changes.{rows_that_come, rows_that_go}
use Rattle.pipe_view.specs.Codes.{GroupRows, GroupList, no_rows, group_rows, group_at, side_rows, group_with, group_without, row_code, HaveCode, IsPlaced, AreSorted, ArePlaced, HasGroup, Code}
use Rattle.pipe_view.specs.Joined.{group_join}
use Rattle.pipe_view.specs.Held.{kept_in, HaveWidth, AreCounted, IsHeld, count_on, counts_with}
use Rattle.pipe_view.specs.declared.counts.Counts.{Counts}
use Rattle.pipe_view.specs.declared.delta.Delta.{Delta}
use Rattle.pipe_view.specs.declared.side.ViewSide.{ViewSide}
use Rattle.pipe_view.specs.declared.side.ViewSide.TheVariants as side
use Rattle.pipe_view.proofs.Tests.{all-append}
use Rattle.pipe_view.proofs.Changing.{uncovers_beside, row-more}
use Rattle.pipe_view.proofs.Placing.{rows-by_group, group-by_side, placed-at}
use Rattle.pipe_view.proofs.Weighing.{total-values, misfit, misfits-none, wide-from_none, wide-at, length-total, own-sums, other-sums}
use Rattle.pipe_view.proofs.Apart.{FitWidths, stand-apart}

-- ---- one group changed

pub no-join : (j : Join) (w : Row → ℕ) → total w (group_join j no_rows) ≡ 0
no-join j w = elim (keeps_built j.how true) as (λ k. total w (cond k (let none : List Row = [] in none) []) ≡ (let n : ℕ = 0 in n)) [ true ↦ refl | false ↦ refl ]

module _ (j : Join) (kind : is_view_kind j.how ≡ true) where
  pub join-sums : (w : Row → ℕ) (groups : GroupList) → AreSorted groups → ArePlaced j groups → total w (join_rows j (side_rows true groups) (side_rows false groups)) ≡ sum_by (λ g. total w (group_join j g)) (values_of groups)
  join-sums w groups sorted placed = rows-by_group j kind w groups sorted placed ∙ total-values (λ g. total w (group_join j g)) groups

  -- the rows of the join have changed by those of the group
  pub join-changed : (c : Code) (g : GroupRows) (before after : GroupList) → AreSorted before → AreSorted after → ArePlaced j before → ArePlaced j after → HasGroup c g before after → (w : Row → ℕ) →
      total w (join_rows j (side_rows true after) (side_rows false after)) + total w (group_join j (group_at c before)) ≡ total w (join_rows j (side_rows true before) (side_rows false before)) + total w (group_join j g)
  join-changed c g before after sb sa pb pa h w =
      let sums = h.sums (λ x. total w (group_join j x)) (no-join j w) in
      omega (arith, sums, join-sums w before sb pb, join-sums w after sa pa)

  own-with : (right_built : Bool) (row : Row) (g : GroupRows) → group_rows right_built (group_with right_built row g) ≡ group_rows right_built g ++ row ∷ []
  own-with true row g = refl
  own-with false row g = refl

  other-with : (right_built : Bool) (row : Row) (g : GroupRows) → group_rows (not right_built) (group_with right_built row g) ≡ group_rows (not right_built) g
  other-with true row g = refl
  other-with false row g = refl

  -- a group with one row more
  pub group-more : (right_built : Bool) (row : Row) (g : GroupRows) (w : Row → ℕ) →
      let own = group_rows right_built g in let built = group_rows (not right_built) g in
      let uncovers = uncovers_beside j right_built row (own ++ []) in
      total w (group_join j (group_with right_built row g)) + total w (rows_that_go j right_built uncovers row built) ≡ total w (group_join j g) + total w (rows_that_come j right_built uncovers row built)
  group-more right_built row g w =
      let own = group_rows right_built g in
      let built = group_rows (not right_built) g in
      let after = group-by_side j right_built w (group_with right_built row g) kind in
      let before = group-by_side j right_built w g kind in
      let left = ap (λ l. total w (all_shares j right_built l (group_rows (not right_built) (group_with right_built row g)))) (own-with right_built row g) in
      let right = ap (λ l. total w (all_shares j right_built (own ++ row ∷ []) l)) (other-with right_built row g) in
      let same = ap (λ l. total w (all_shares j right_built l built)) (append-nil own) in
      let law = row-more j right_built row kind own [] built w in
      omega (arith, after, before, left, right, same, law)

  code-with : (right_built : Bool) (c : Code) (row : Row) (g : GroupRows) → IsPlaced j (c, g) → row_code j right_built row ≡ c → IsPlaced j (c, group_with right_built row g)
  code-with true c row g h e = record { left = all-append _ g.left (row ∷ []) h.left (e, tt); right = h.right }
  code-with false c row g h e = record { left = h.left; right = all-append _ g.right (row ∷ []) h.right (e, tt) }

  pub placed-with : (right_built : Bool) (c : Code) (row : Row) (before after : GroupList) → ArePlaced j before → row_code j right_built row ≡ c → HasGroup c (group_with right_built row (group_at c before)) before after → ArePlaced j after
  placed-with right_built c row before after p e h = h.placed j p (code-with right_built c row (group_at c before) (placed-at j c before p) e)

  -- what comes and goes tells the rows of the join after it
  pub join-more : (right_built : Bool) (c : Code) (row : Row) (before after : GroupList) → AreSorted before → AreSorted after → ArePlaced j before → row_code j right_built row ≡ c →
      HasGroup c (group_with right_built row (group_at c before)) before after → (w : Row → ℕ) →
      let own = group_rows right_built (group_at c before) in let built = group_rows (not right_built) (group_at c before) in
      let uncovers = uncovers_beside j right_built row (own ++ []) in
      total w (join_rows j (side_rows true after) (side_rows false after)) + total w (rows_that_go j right_built uncovers row built)
      ≡ total w (join_rows j (side_rows true before) (side_rows false before)) + total w (rows_that_come j right_built uncovers row built)
  join-more right_built c row before after sb sa p e h w =
      let changed = join-changed c (group_with right_built row (group_at c before)) before after sb sa p (placed-with right_built c row before after p e h) h w in
      let more = group-more right_built row (group_at c before) w in
      omega (arith, changed, more)

-- ---- the view

wide-same : (width : ℕ) (a b : List Row) → total (misfit width) a ≡ total (misfit width) b → HaveWidth width b → HaveWidth width a
wide-same width a b e h = wide-from_none width a (e ∙ misfits-none width b h)

wide-more : (width : ℕ) (row : Row) (a b : List Row) → total (misfit width) a ≡ total (misfit width) b + misfit width row → length row ≡ width → HaveWidth width b → HaveWidth width a
wide-more width row a b e fits h =
    let one = misfits-none width (row ∷ []) (fits, tt) in
    let old = misfits-none width b h in
    wide-from_none width a (omega (arith, e, one, old))

longer : (row : Row) (a b : List Row) → ((w : Row → ℕ) → total w a ≡ total w b + w row) → length a ≡ length b + 1
longer row a b h = let one = h (λ x. 1) in omega (arith, one, length-total a, length-total b)

as-long : (a b : List Row) → ((w : Row → ℕ) → total w a ≡ total w b) → length a ≡ length b
as-long a b h = let same = h (λ x. 1) in omega (arith, same, length-total a, length-total b)

same-more : (row : Row) (a b : List Row) → ((w : Row → ℕ) → total w a ≡ total w b + w row) → Same a (b ++ row ∷ [])
same-more row a b h = Same-from_bag (record { sums = λ w. (let e = h w in let more = total-append w b (row ∷ []) in omega (arith, e, more)) })

same-as : (a b : List Row) → ((w : Row → ℕ) → total w a ≡ total w b) → Same a b
same-as a b h = Same-from_bag (record { sums = h })

-- what a row put in has done
pub record IsPut (which : ViewSide) (row : Row) (schema : List Field) (before after : Kept) (groups : GroupList) (counts : Counts) (delta : Delta) : Type 0 where
  pub held : IsHeld after schema groups counts
  pub same : IsSameView after (with_row which row before)
  pub tells : IsDelta (view_rows before) (view_rows after) delta

module _ (left right : List Field) (left_on right_on : List Expr) (options : JoinOptions) (limit : ℕ) where
  abbrev pub kept : GroupList → Kept
  kept groups = kept_in left right left_on right_on options limit groups

  abbrev pub join : Join
  join = join_over left right (formulas_of left_on) (formulas_of right_on) options

  abbrev pub beside : (right_built : Bool) → Code → GroupList → Row → Bool
  beside right_built c groups row = uncovers_beside join right_built row (group_rows right_built (group_at c groups) ++ [])

  widths : (right_built : Bool) (c : Code) (row : Row) (groups : GroupList) (width : length row ≡ cond right_built (length left) (length right)) → HaveWidth (length left) (side_rows true groups) → FitWidths join right_built row (group_rows (not right_built) (group_at c groups))
  widths true c row groups e h = e
  widths false c row groups e h = wide-at true (length left) c groups h

  module _ (right_built : Bool) (c : Code) (row : Row) (schema : List Field) (before after : GroupList) (counts : Counts) (rows : ℕ) (delta : Delta)
      (held : IsHeld (kept before) schema before counts) (sb : AreSorted before) (sa : AreSorted after) (code : row_code join right_built row ≡ c)
      (width : length row ≡ cond right_built (length left) (length right))
      (has : HasGroup c (group_with right_built row (group_at c before)) before after)
      (plus : delta.plus ≡ rows_that_come join right_built (beside right_built c before row) row (group_rows (not right_built) (group_at c before)))
      (minus : delta.minus ≡ rows_that_go join right_built (beside right_built c before row) row (group_rows (not right_built) (group_at c before))) where
    put-sums : (w : Row → ℕ) → total w (view_rows (kept after)) + total w delta.minus ≡ total w (view_rows (kept before)) + total w delta.plus
    put-sums w =
        let law = join-more join held.kind right_built c row before after sb sa held.placed code has w in
        let come = ap (total w) plus in
        let go = ap (total w) minus in
        omega (arith, law, come, go)

    pub put-delta : IsDelta (view_rows (kept before)) (view_rows (kept after)) delta
    put-delta = record {
      sum = Same-from_bag (record { sums = λ w. (let e = put-sums w in let a = total-append w (view_rows (kept after)) delta.minus in let b = total-append w (view_rows (kept before)) delta.plus in omega (arith, e, a, b)) });
      apart = subst (λ l. StandApart l delta.minus) (sym plus) (subst (StandApart (rows_that_come join right_built (beside right_built c before row) row (group_rows (not right_built) (group_at c before)))) (sym minus)
          (stand-apart join right_built row (beside right_built c before row) (group_rows (not right_built) (group_at c before)) (widths right_built c row before width held.left_wide)));
    }

    pub put-placed : ArePlaced join after
    put-placed = placed-with join held.kind right_built c row before after held.placed code has

    pub put-count : length (view_rows (kept after)) + length delta.minus ≡ length (view_rows (kept before)) + length delta.plus
    put-count =
        let e = put-sums (λ x. 1) in
        omega (arith, e, length-total (view_rows (kept after)), length-total delta.minus, length-total (view_rows (kept before)), length-total delta.plus)

-- a side's own numbers after one row more
module _ (left right : List Field) (left_on right_on : List Expr) (options : JoinOptions) (limit : ℕ) (c : Code) (row : Row) (schema : List Field) (before after : GroupList) (counts : Counts) (own rows : ℕ) (delta : Delta) where
  abbrev pub at : GroupList → Kept
  at groups = kept_in left right left_on right_on options limit groups

  abbrev pub over : Join
  over = join_over left right (formulas_of left_on) (formulas_of right_on) options

  abbrev pub u : (right_built : Bool) → Bool
  u right_built = uncovers_beside over right_built row (group_rows right_built (group_at c before) ++ [])

  abbrev pub others : (right_built : Bool) → List Row
  others right_built = group_rows (not right_built) (group_at c before)

  -- the row is put into the left table
  pub put-left : IsHeld (at before) schema before counts → AreSorted before → AreSorted after → row_code over true row ≡ c → length row ≡ length left →
      HasGroup c (group_with true row (group_at c before)) before after →
      delta.plus ≡ rows_that_come over true (u true) row (others true) → delta.minus ≡ rows_that_go over true (u true) row (others true) →
      rows + length delta.minus ≡ counts.rows + length delta.plus → own ≡ counts.left + 1 → rows ≤ limit → own ≤ limit →
      IsPut side.Left row schema (at before) (at after) after (counts_with true own rows counts) delta
  put-left held sb sa code width has plus minus more one few room =
      let left_sums = own-sums true c row before after has in
      let right_sums = other-sums true c row before after has in
      let count = put-count left right left_on right_on options limit true c row schema before after counts rows delta held sb sa code width has plus minus in
      let total_rows : rows ≡ length (view_rows (at after)) = omega (arith, count, more, (held.counted).rows) in
      let own_rows : own ≡ length (side_rows true after) = omega (arith, one, (held.counted).left, longer row (side_rows true after) (side_rows true before) left_sums) in
      let other_rows = as-long (side_rows false after) (side_rows false before) right_sums in
      record {
        held = record {
          fields = held.fields;
          kind = held.kind;
          sorted = sa;
          placed = put-placed left right left_on right_on options limit true c row schema before after counts rows delta held sb sa code width has plus minus;
          left_wide = wide-more (length left) row (side_rows true after) (side_rows true before) (left_sums (misfit (length left))) width held.left_wide;
          right_wide = wide-same (length right) (side_rows false after) (side_rows false before) (right_sums (misfit (length right))) held.right_wide;
          counted = record { left = own_rows; right = (held.counted).right ∙ sym other_rows; rows = total_rows };
          within = record { left = omega (arith, own_rows, room); right = (let was = (held.within).right in omega (arith, was, other_rows)); rows = omega (arith, total_rows, few) };
        };
        same = record {
          left_schema = refl;
          right_schema = refl;
          left_on = refl;
          right_on = refl;
          options = refl;
          limit = refl;
          left = same-more row (side_rows true after) (side_rows true before) left_sums;
          right = same-as (side_rows false after) (side_rows false before) right_sums;
        };
        tells = put-delta left right left_on right_on options limit true c row schema before after counts rows delta held sb sa code width has plus minus;
      }

  -- the row is put into the right table
  pub put-right : IsHeld (at before) schema before counts → AreSorted before → AreSorted after → row_code over false row ≡ c → length row ≡ length right →
      HasGroup c (group_with false row (group_at c before)) before after →
      delta.plus ≡ rows_that_come over false (u false) row (others false) → delta.minus ≡ rows_that_go over false (u false) row (others false) →
      rows + length delta.minus ≡ counts.rows + length delta.plus → own ≡ counts.right + 1 → rows ≤ limit → own ≤ limit →
      IsPut side.Right row schema (at before) (at after) after (counts_with false own rows counts) delta
  put-right held sb sa code width has plus minus more one few room =
      let right_sums = own-sums false c row before after has in
      let left_sums = other-sums false c row before after has in
      let count = put-count left right left_on right_on options limit false c row schema before after counts rows delta held sb sa code width has plus minus in
      let total_rows : rows ≡ length (view_rows (at after)) = omega (arith, count, more, (held.counted).rows) in
      let own_rows : own ≡ length (side_rows false after) = omega (arith, one, (held.counted).right, longer row (side_rows false after) (side_rows false before) right_sums) in
      let other_rows = as-long (side_rows true after) (side_rows true before) left_sums in
      record {
        held = record {
          fields = held.fields;
          kind = held.kind;
          sorted = sa;
          placed = put-placed left right left_on right_on options limit false c row schema before after counts rows delta held sb sa code width has plus minus;
          left_wide = wide-same (length left) (side_rows true after) (side_rows true before) (left_sums (misfit (length left))) held.left_wide;
          right_wide = wide-more (length right) row (side_rows false after) (side_rows false before) (right_sums (misfit (length right))) width held.right_wide;
          counted = record { left = (held.counted).left ∙ sym other_rows; right = own_rows; rows = total_rows };
          within = record { left = (let was = (held.within).left in omega (arith, was, other_rows)); right = omega (arith, own_rows, room); rows = omega (arith, total_rows, few) };
        };
        same = record {
          left_schema = refl;
          right_schema = refl;
          left_on = refl;
          right_on = refl;
          options = refl;
          limit = refl;
          left = same-as (side_rows true after) (side_rows true before) left_sums;
          right = same-more row (side_rows false after) (side_rows false before) right_sums;
        };
        tells = put-delta left right left_on right_on options limit false c row schema before after counts rows delta held sb sa code width has plus minus;
      }
