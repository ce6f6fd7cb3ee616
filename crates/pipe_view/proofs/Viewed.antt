-- Edits of a view, from what is said of its groups.
use Rattle.std.proofs.Common.{◌≡◌, ℕ, zero, suc, ◌+◌, ◌≤◌, ◌<◌, Bool, true, false, cond, List, [], ◌∷◌, ◌++◌, map, length, take, drop, get_or, refl, ap, sym, ◌∙◌, subst, arith, append-nil, inl, inr}
use Rattle.std.specs.Prelude.{not, ◌&&◌, ◌⊎◌, sum_by, slice_index_or}
use Rattle.std.specs.List.{flat_map}
use Rattle.std.specs.Map.{values_of}
use Rattle.pipe_schema.specs.Rows.{Row, Same, eq_row, times}
use Rattle.pipe_schema.specs.declared.field.Field.{Field}
use Rattle.pipe_schema.specs.Weights.{total}
use Rattle.pipe_schema.proofs.Weights.{total-append, total-flat_map, total-sum_by, Same-from_bag, SameBag-from_rows, eq_row-refl}
use Rattle.pipe_expr.specs.Formula.{formulas_of}
use Rattle.pipe_expr.specs.declared.expr.Expr.{Expr}
use Rattle.pipe_expr.specs.Joins.{Join, join_rows}
use Rattle.pipe_plan.specs.Schemas.{join_over}
use Rattle.pipe_plan.specs.declared.ir.JoinOptions.{JoinOptions}
use Rattle.pipe_view.specs.Kept.{Kept, kept_join, view_rows, fields_on, with_row, times_on, IsSameView, IsDelta, IsWithin, IsOver}
use Rattle.pipe_view.specs.Sides.{right_is_built}
use Rattle.pipe_view.specs.Changes.{rows_that_come, rows_that_go}
use Rattle.pipe_view.specs.Codes.{GroupRows, GroupList, group_rows, group_at, side_rows, group_with, group_without, row_code, AreSorted, HasGroup, Code}
use Rattle.pipe_view.specs.Joined.{group_join}
use Rattle.pipe_view.specs.Held.{kept_in, IsHeld, count_on, counts_with}
use Rattle.pipe_view.specs.Edits.{is_first, own_at, built_at, insert_comes, insert_goes, GoesFromThere, IsInsertion, IsFull, NoInsertion, rest_at, remove_comes, remove_goes, StandsAt, GoesFromView, HasGroupRows, IsRemoval, NoRemoval}
use Rattle.pipe_view.specs.Merged.{IsInOrder}
use Rattle.pipe_view.specs.Refusals.{IsInsertRefusal, IsRemoveRefusal}
use Rattle.pipe_view.specs.declared.counts.Counts.{Counts}
use Rattle.pipe_view.specs.declared.delta.Delta.{Delta}
use Rattle.pipe_view.specs.declared.edit.Edit.{Edit}
use Rattle.pipe_view.specs.declared.edit.TakenRow.{TakenRow}
use Rattle.pipe_view.specs.declared.error.ViewError.{ViewError}
use Rattle.pipe_view.specs.declared.side.ViewSide.{ViewSide}
use Rattle.pipe_view.specs.declared.side.ViewSide.TheVariants as side
use Rattle.pipe_view.proofs.Weighing.{length-total}
use Rattle.pipe_view.proofs.Putting.{IsPut, put-left, put-right, join-sums}
use Rattle.pipe_view.proofs.Taking.{around, IsAround, group-less, IsTaken, take-left, take-right, group-within, side-within}
use Rattle.pipe_view.proofs.Local.{times-local}
use Rattle.pipe_view.proofs.Limits.{gone-within, over-left, over-right, full-left, full-right}

stands-times : (row : Row) (rows : List Row) (i : ℕ) → i < length rows → get_or rows i [] ≡ row → 0 < times eq_row row rows
stands-times row [] i h e = absurd (omega (arith, h))
stands-times row (x ∷ rows) zero h e = (let one : cond (eq_row row x) 1 0 ≡ (let n : ℕ = 1 in n) = ap (λ t. cond t 1 0) (ap (eq_row row) e ∙ eq_row-refl row) in omega (arith, one))
stands-times row (x ∷ rows) (suc i) h e = (let rest = stands-times row rows i (omega (arith, h)) e in omega (arith, rest))

module _ (left right : List Field) (left_on right_on : List Expr) (options : JoinOptions) (limit : ℕ) (schema : List Field) (groups : GroupList) (counts : Counts)
    (held : IsHeld (kept_in left right left_on right_on options limit groups) schema groups counts) where
  abbrev pub whole : Join
  whole = join_over left right (formulas_of left_on) (formulas_of right_on) options

  abbrev pub at : GroupList → Kept
  at gs = kept_in left right left_on right_on options limit gs

  -- ---- putting a row in

  pub goes-from_there : (right_built : Bool) (row : Row) → GoesFromThere whole right_built row groups counts.rows
  goes-from_there right_built row = λ code. gone-within left right left_on right_on options limit schema groups counts held held.sorted row right_built code

  pub inserted : (which : ViewSide) (row : Row) (after : GroupList) (edit : Edit) → length row ≡ length (fields_on which (at groups)) → IsInsertion whole (right_is_built which) row groups counts limit edit →
      HasGroup edit.code (group_with (right_is_built which) row (group_at edit.code groups)) groups after → AreSorted after → IsPut which row schema (at groups) (at after) after edit.counts edit.delta
  inserted side.Left row after edit width is has sa =
      subst (λ n. IsPut side.Left row schema (at groups) (at after) after n edit.delta) (sym is.counted)
      (put-left left right left_on right_on options limit edit.code row schema groups after counts (counts.left + 1) edit.counts.rows edit.delta held held.sorted sa is.code width has is.plus is.minus is.rows refl is.few is.room)
  inserted side.Right row after edit width is has sa =
      subst (λ n. IsPut side.Right row schema (at groups) (at after) after n edit.delta) (sym is.counted)
      (put-right left right left_on right_on options limit edit.code row schema groups after counts (counts.right + 1) edit.counts.rows edit.delta held held.sorted sa is.code width has is.plus is.minus is.rows refl is.few is.room)

  full : (which : ViewSide) (row : Row) → IsFull whole (right_is_built which) row groups counts limit → IsOver (with_row which row (at groups))
  full side.Left row (inl h) = over-left left right left_on right_on options limit schema groups counts held held.sorted row h
  full side.Left row (inr h) = full-left left right left_on right_on options limit schema groups counts held held.sorted row h
  full side.Right row (inl h) = over-right left right left_on right_on options limit schema groups counts held held.sorted row h
  full side.Right row (inr h) = full-right left right left_on right_on options limit schema groups counts held held.sorted row h

  pub not-inserted : (which : ViewSide) (row : Row) (e : ViewError) → NoInsertion whole (right_is_built which) row groups counts limit e → IsInsertRefusal which row (at groups) e
  not-inserted which row e (inl memory) = inl memory
  not-inserted which row e (inr many) = inr (many.0, full which row many.1)

  -- ---- taking a row out

  rest-suc : (right_built : Bool) (code : Code) (place : ℕ) → rest_at right_built code place groups ≡ take place (own_at right_built code groups) ++ drop (suc place) (own_at right_built code groups)
  rest-suc right_built code place = (let e : place + 1 ≡ suc place = omega arith in ap (λ k. take place (own_at right_built code groups) ++ drop k (own_at right_built code groups)) e)

  come-suc : (right_built : Bool) (row : Row) (code : Code) (place : ℕ) → remove_goes whole right_built row code place groups ≡ rows_that_come whole right_built (is_first whole right_built row (take place (own_at right_built code groups) ++ drop (suc place) (own_at right_built code groups))) row (built_at right_built code groups)
  come-suc right_built row code place = ap (λ l. rows_that_come whole right_built (is_first whole right_built row l) row (built_at right_built code groups)) (rest-suc right_built code place)

  go-suc : (right_built : Bool) (row : Row) (code : Code) (place : ℕ) → remove_comes whole right_built row code place groups ≡ rows_that_go whole right_built (is_first whole right_built row (take place (own_at right_built code groups) ++ drop (suc place) (own_at right_built code groups))) row (built_at right_built code groups)
  go-suc right_built row code place = ap (λ l. rows_that_go whole right_built (is_first whole right_built row l) row (built_at right_built code groups)) (rest-suc right_built code place)

  about : (right_built : Bool) (row : Row) (code : Code) (place : ℕ) → StandsAt right_built row code place groups → IsAround whole held.kind right_built code place row (group_at code groups)
  about right_built row code place h = around (own_at right_built code groups) place row [] h.inside h.found

  pub goes-from_view : (right_built : Bool) (row : Row) → GoesFromView whole right_built row groups counts.rows
  goes-from_view right_built row = λ code place stands. (
      let law = group-less whole held.kind right_built code place row (group_at code groups) (about right_built row code place stands) (λ r. 1) in
      let within = group-within left right left_on right_on options limit schema groups counts held held.sorted code in
      let came = ap length (come-suc right_built row code place) in
      let gone = ap length (go-suc right_built row code place) in
      let come_total = length-total (rows_that_come whole right_built (is_first whole right_built row (take place (own_at right_built code groups) ++ drop (suc place) (own_at right_built code groups))) row (built_at right_built code groups)) in
      let go_total = length-total (rows_that_go whole right_built (is_first whole right_built row (take place (own_at right_built code groups) ++ drop (suc place) (own_at right_built code groups))) row (built_at right_built code groups)) in
      omega (arith, law, within, came, gone, come_total, go_total))

  pub has-group_rows : (right_built : Bool) → HasGroupRows right_built groups counts
  has-group_rows true = λ code. (let in_side = side-within left right left_on right_on options limit schema groups counts held held.sorted true code in omega (arith, in_side, (held.counted).left))
  has-group_rows false = λ code. (let in_side = side-within left right left_on right_on options limit schema groups counts held held.sorted false code in omega (arith, in_side, (held.counted).right))

  pub removed : (which : ViewSide) (row : Row) (after : GroupList) (removal : TakenRow) → IsRemoval whole (right_is_built which) row groups counts removal →
      HasGroup removal.edit.code (group_without (right_is_built which) removal.place (group_at removal.edit.code groups)) groups after → AreSorted after → IsTaken which row schema (at groups) (at after) after removal.edit.counts removal.edit.delta
  removed side.Left row after removal is has sa =
      subst (λ n. IsTaken side.Left row schema (at groups) (at after) after n removal.edit.delta) (sym is.counted)
      (take-left left right left_on right_on options limit removal.edit.code removal.place row schema groups after counts removal.edit.counts.left removal.edit.counts.rows removal.edit.delta held held.sorted sa
      (about true row removal.edit.code removal.place is.stands) has (is.plus ∙ go-suc true row removal.edit.code removal.place) (is.minus ∙ come-suc true row removal.edit.code removal.place) is.rows is.own)
  removed side.Right row after removal is has sa =
      subst (λ n. IsTaken side.Right row schema (at groups) (at after) after n removal.edit.delta) (sym is.counted)
      (take-right left right left_on right_on options limit removal.edit.code removal.place row schema groups after counts removal.edit.counts.right removal.edit.counts.rows removal.edit.delta held held.sorted sa
      (about false row removal.edit.code removal.place is.stands) has (is.plus ∙ go-suc false row removal.edit.code removal.place) (is.minus ∙ come-suc false row removal.edit.code removal.place) is.rows is.own)

  -- how often a row stands in a table, by its group
  times-of : (which : ViewSide) (row : Row) → times_on which row (at groups) ≡ times eq_row row (own_at (right_is_built which) (row_code whole (right_is_built which) row) groups)
  times-of side.Left row = times-local whole true row groups held.sorted held.placed
  times-of side.Right row = times-local whole false row groups held.sorted held.placed

  pub stood : (which : ViewSide) (row : Row) (removal : TakenRow) → IsRemoval whole (right_is_built which) row groups counts removal → 0 < times_on which row (at groups)
  stood which row removal is =
      let some = stands-times row (own_at (right_is_built which) removal.edit.code groups) removal.place (is.stands).inside (is.stands).found in
      let same = times-of which row ∙ ap (λ k. times eq_row row (own_at (right_is_built which) k groups)) is.code in
      omega (arith, some, same)

  pub not-removed : (which : ViewSide) (row : Row) (e : ViewError) → NoRemoval whole (right_is_built which) row groups e → IsRemoveRefusal which row (at groups) e
  not-removed which row e (inl memory) = inl memory
  not-removed which row e (inr absent) = inr (absent.0, times-of which row ∙ absent.1)

  -- ---- the rows

  pub rows-in_order : (rows made : List Row) → rows ≡ flat_map (group_join whole) (values_of groups) → IsInOrder rows made → IsInOrder (view_rows (at groups)) made
  rows-in_order rows made e h = record {
    same = Same-from_bag (record {
      sums = λ w. (SameBag-from_rows h.same).sums w ∙ ap (total w) e ∙ total-flat_map (group_join whole) w (values_of groups) ∙ total-sum_by (λ g. total w (group_join whole g)) (values_of groups) ∙ sym (join-sums whole held.kind w groups held.sorted held.placed);
    });
    in_order = h.in_order;
  }
