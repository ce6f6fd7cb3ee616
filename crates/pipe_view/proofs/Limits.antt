-- Before an edit: what goes is there, and what is too much.
use Rattle.std.proofs.Common.{◌≡◌, ℕ, ◌+◌, ◌≤◌, ◌<◌, Bool, true, false, cond, List, [], ◌∷◌, ◌++◌, map, length, take, drop, suc, refl, ap, sym, ◌∙◌, subst, arith, append-nil, inl, inr}
use Rattle.std.specs.Prelude.{not, ◌&&◌, ◌⊎◌}
use Rattle.pipe_schema.specs.Rows.{Row, Same, eq_row, times}
use Rattle.pipe_schema.specs.declared.field.Field.{Field}
use Rattle.pipe_schema.specs.Weights.{total}
use Rattle.pipe_schema.proofs.Weights.{total-append, SameBag-from_rows}
use Rattle.pipe_expr.specs.Formula.{formulas_of}
use Rattle.pipe_expr.specs.declared.expr.Expr.{Expr}
use Rattle.pipe_expr.specs.Joins.{Join, join_rows}
use Rattle.pipe_expr.specs.Shares.{all_shares}
use Rattle.pipe_expr.proofs.ShareLaw.{shares-right_built, shares-left_built}
use Rattle.pipe_plan.specs.Schemas.{join_over}
use Rattle.pipe_plan.specs.declared.ir.JoinOptions.{JoinOptions}
use Rattle.pipe_view.specs.Kept.{Kept, view_rows, with_row, IsOver}
use Rattle.pipe_view.specs.Changes.{rows_that_come, rows_that_go}
use Rattle.pipe_view.specs.Codes.{GroupRows, GroupList, group_rows, group_at, side_rows, row_code, AreSorted, Code}
use Rattle.pipe_view.specs.Joined.{group_join}
use Rattle.pipe_view.specs.Held.{kept_in, IsHeld}
use Rattle.pipe_view.specs.declared.counts.Counts.{Counts}
use Rattle.pipe_view.specs.declared.side.ViewSide.{ViewSide}
use Rattle.pipe_view.specs.declared.side.ViewSide.TheVariants as side
use Rattle.pipe_view.proofs.Changing.{uncovers_beside}
use Rattle.pipe_view.proofs.Weighing.{length-total}
use Rattle.pipe_view.proofs.Local.{tables-more}
use Rattle.pipe_view.proofs.Putting.{group-more}
use Rattle.pipe_view.proofs.Taking.{group-within}

module _ (left right : List Field) (left_on right_on : List Expr) (options : JoinOptions) (limit : ℕ) (schema : List Field) (groups : GroupList) (counts : Counts)
    (held : IsHeld (kept_in left right left_on right_on options limit groups) schema groups counts) (sorted : AreSorted groups) (row : Row) where
  abbrev pub whole : Join
  whole = join_over left right (formulas_of left_on) (formulas_of right_on) options

  abbrev pub before : Kept
  before = kept_in left right left_on right_on options limit groups

  abbrev pub beside : (right_built : Bool) → Code → Bool
  beside right_built c = uncovers_beside whole right_built row (group_rows right_built (group_at c groups) ++ [])

  abbrev pub come : (right_built : Bool) → Code → List Row
  come right_built c = rows_that_come whole right_built (beside right_built c) row (group_rows (not right_built) (group_at c groups))

  abbrev pub go : (right_built : Bool) → Code → List Row
  go right_built c = rows_that_go whole right_built (beside right_built c) row (group_rows (not right_built) (group_at c groups))

  -- what goes is there, or comes
  pub gone-within : (right_built : Bool) (c : Code) → length (go right_built c) ≤ counts.rows + length (come right_built c)
  gone-within right_built c =
      let law = group-more whole held.kind right_built row (group_at c groups) (λ r. 1) in
      let in_view = group-within left right left_on right_on options limit schema groups counts held sorted c in
      omega (arith, law, in_view, length-total (go right_built c), length-total (come right_built c))

  tables-left : (w : Row → ℕ) → total w (join_rows whole (side_rows true groups ++ row ∷ []) (side_rows false groups)) + total w (go true (row_code whole true row)) ≡ total w (join_rows whole (side_rows true groups) (side_rows false groups)) + total w (come true (row_code whole true row))
  tables-left w =
      let law = tables-more whole true row groups sorted held.placed held.kind w in
      let after = (SameBag-from_rows (shares-right_built whole (side_rows true groups ++ row ∷ []) (side_rows false groups))).sums w in
      let was = (SameBag-from_rows (shares-right_built whole (side_rows true groups) (side_rows false groups))).sums w in
      omega (arith, law, after, was)

  tables-right : (w : Row → ℕ) → total w (join_rows whole (side_rows true groups) (side_rows false groups ++ row ∷ [])) + total w (go false (row_code whole false row)) ≡ total w (join_rows whole (side_rows true groups) (side_rows false groups)) + total w (come false (row_code whole false row))
  tables-right w =
      let law = tables-more whole false row groups sorted held.placed held.kind w in
      let after = (SameBag-from_rows (shares-left_built whole (side_rows true groups) (side_rows false groups ++ row ∷ []))).sums w in
      let was = (SameBag-from_rows (shares-left_built whole (side_rows true groups) (side_rows false groups))).sums w in
      omega (arith, law, after, was)

  -- too many rows of the view
  pub over-left : limit + length (go true (row_code whole true row)) < counts.rows + length (come true (row_code whole true row)) → IsOver (with_row side.Left row before)
  over-left h =
      let rows = join_rows whole (side_rows true groups ++ row ∷ []) (side_rows false groups) in
      let law = tables-left (λ r. 1) in
      let c = row_code whole true row in
      let many : limit < length rows = omega (arith, h, law, length-total rows, length-total (view_rows before), length-total (go true c), length-total (come true c), (held.counted).rows) in
      inr (inr many)

  pub over-right : limit + length (go false (row_code whole false row)) < counts.rows + length (come false (row_code whole false row)) → IsOver (with_row side.Right row before)
  over-right h =
      let rows = join_rows whole (side_rows true groups) (side_rows false groups ++ row ∷ []) in
      let law = tables-right (λ r. 1) in
      let c = row_code whole false row in
      let many : limit < length rows = omega (arith, h, law, length-total rows, length-total (view_rows before), length-total (go false c), length-total (come false c), (held.counted).rows) in
      inr (inr many)

  one-longer : (rows : List Row) → length (rows ++ row ∷ []) ≡ length rows + 1
  one-longer [] = refl
  one-longer (x ∷ rows) = omega (arith, one-longer rows)

  -- too many rows of a table
  pub full-left : limit < counts.left + 1 → IsOver (with_row side.Left row before)
  full-left h = inl (omega (arith, h, (held.counted).left, one-longer (side_rows true groups)))

  pub full-right : limit < counts.right + 1 → IsOver (with_row side.Right row before)
  full-right h = inr (inl (omega (arith, h, (held.counted).right, one-longer (side_rows false groups))))
