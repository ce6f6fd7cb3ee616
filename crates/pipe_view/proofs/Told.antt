-- Edits of a view as its caller sees it: its fields by their names, its join by the sides, its side by a truth value.
use Rattle.std.proofs.Common.{◌≡◌, ℕ, ◌<◌, Bool, List, length, ap, sym, ◌∙◌, subst, Result, Ok, Err, IfOk, IfErr}
use Rattle.std.specs.Prelude.{OnErr}
use Rattle.std.specs.Result.{IsErrAnd}
use Rattle.std.specs.List.{flat_map}
use Rattle.std.specs.Map.{values_of}
use Rattle.pipe_schema.specs.Rows.{Row}
use Rattle.pipe_schema.specs.declared.field.Field.{Field}
use Rattle.pipe_expr.specs.Formula.{formulas_of}
use Rattle.pipe_expr.specs.declared.expr.Expr.{Expr}
use Rattle.pipe_expr.specs.Joins.{Join}
use Rattle.pipe_plan.specs.Schemas.{join_over}
use Rattle.pipe_plan.specs.declared.ir.JoinOptions.{JoinOptions}
use Rattle.pipe_view.specs.Kept.{Kept, kept_join, view_rows, fields_on, times_on}
use Rattle.pipe_view.specs.Sides.{right_is_built}
use Rattle.pipe_view.specs.Codes.{GroupList, group_at, group_with, group_without, AreSorted, HasGroup}
use Rattle.pipe_view.specs.Joined.{group_join}
use Rattle.pipe_view.specs.Held.{kept_in, IsHeld}
use Rattle.pipe_view.specs.Edits.{GoesFromThere, IsInsertion, NoInsertion, GoesFromView, HasGroupRows, IsRemoval, NoRemoval}
use Rattle.pipe_view.specs.Merged.{IsInOrder}
use Rattle.pipe_view.specs.Refusals.{IsInsertRefusal, IsRemoveRefusal}
use Rattle.pipe_view.specs.declared.counts.Counts.{Counts}
use Rattle.pipe_view.specs.declared.edit.Edit.{Edit}
use Rattle.pipe_view.specs.declared.edit.TakenRow.{TakenRow}
use Rattle.pipe_view.specs.declared.error.ViewError.{ViewError}
use Rattle.pipe_view.specs.declared.side.ViewSide.{ViewSide}
use Rattle.pipe_view.proofs.Putting.{IsPut}
use Rattle.pipe_view.proofs.Taking.{IsTaken}
use Rattle.pipe_view.proofs.Viewed.{goes-from_there, inserted, not-inserted, goes-from_view, has-group_rows, removed, stood, not-removed, rows-in_order}

module _ (left right : List Field) (left_on right_on : List Expr) (options : JoinOptions) (limit : ℕ) (schema : List Field) (groups : GroupList) (counts : Counts)
    (held : IsHeld (kept_in left right left_on right_on options limit groups) schema groups counts)
    (now : Kept) (seen : kept_in left right left_on right_on options limit groups ≡ now)
    (j : Join) (joined : j ≡ kept_join now) where
  abbrev pub whole : Join
  whole = join_over left right (formulas_of left_on) (formulas_of right_on) options

  abbrev pub at : GroupList → Kept
  at gs = kept_in left right left_on right_on options limit gs

  whole-is : whole ≡ j
  whole-is = ap kept_join seen ∙ sym joined

  -- the rows
  pub rows-told : (rows made : List Row) → rows ≡ flat_map (group_join j) (values_of groups) → IsInOrder rows made → IsInOrder (view_rows now) made
  rows-told rows made e h =
      let here : rows ≡ flat_map (group_join whole) (values_of groups) = e ∙ ap (λ (q : Join). flat_map (group_join q) (values_of groups)) (sym whole-is) in
      subst (λ (v : Kept). IsInOrder (view_rows v) made) seen (rows-in_order left right left_on right_on options limit schema groups counts held rows made here h)

  module _ (which : ViewSide) (right_built : Bool) (built : right_built ≡ right_is_built which) where
    pub may-insert : (row : Row) → GoesFromThere j right_built row groups counts.rows
    may-insert row =
        subst (λ (q : Join). GoesFromThere q right_built row groups counts.rows) whole-is
        (subst (λ (b : Bool). GoesFromThere whole b row groups counts.rows) (sym built) (goes-from_there left right left_on right_on options limit schema groups counts held (right_is_built which) row))

    pub insert-refused : (row : Row) (e : ViewError) → NoInsertion j right_built row groups counts limit e → IsInsertRefusal which row now e
    insert-refused row e h =
        let one = subst (λ (q : Join). NoInsertion q right_built row groups counts limit e) (sym whole-is) h in
        let two = subst (λ (b : Bool). NoInsertion whole b row groups counts limit e) built one in
        subst (λ (v : Kept). IsInsertRefusal which row v e) seen (not-inserted left right left_on right_on options limit schema groups counts held which row e two)

    pub put-told : (row : Row) (after : GroupList) (edit : Edit) → length row ≡ length (fields_on which now) → IsInsertion j right_built row groups counts limit edit →
        HasGroup edit.code (group_with right_built row (group_at edit.code groups)) groups after → AreSorted after → IsPut which row schema now (at after) after edit.counts edit.delta
    put-told row after edit width is has sorted =
        let one = subst (λ (q : Join). IsInsertion q right_built row groups counts limit edit) (sym whole-is) is in
        let two = subst (λ (b : Bool). IsInsertion whole b row groups counts limit edit) built one in
        let group = subst (λ (b : Bool). HasGroup edit.code (group_with b row (group_at edit.code groups)) groups after) built has in
        let wide = subst (λ (v : Kept). length row ≡ length (fields_on which v)) (sym seen) width in
        subst (λ (v : Kept). IsPut which row schema v (at after) after edit.counts edit.delta) seen (inserted left right left_on right_on options limit schema groups counts held which row after edit wide two group sorted)

    pub may-remove : (row : Row) → GoesFromView j right_built row groups counts.rows
    may-remove row =
        subst (λ (q : Join). GoesFromView q right_built row groups counts.rows) whole-is
        (goes-from_view left right left_on right_on options limit schema groups counts held right_built row)

    pub has-rows : HasGroupRows right_built groups counts
    has-rows = has-group_rows left right left_on right_on options limit schema groups counts held right_built

    removal-here : (row : Row) (removal : TakenRow) → IsRemoval j right_built row groups counts removal → IsRemoval whole (right_is_built which) row groups counts removal
    removal-here row removal is =
        let one = subst (λ (q : Join). IsRemoval q right_built row groups counts removal) (sym whole-is) is in
        subst (λ (b : Bool). IsRemoval whole b row groups counts removal) built one

    pub remove-refused : (row : Row) (e : ViewError) → NoRemoval j right_built row groups e → IsRemoveRefusal which row now e
    remove-refused row e h =
        let one = subst (λ (q : Join). NoRemoval q right_built row groups e) (sym whole-is) h in
        let two = subst (λ (b : Bool). NoRemoval whole b row groups e) built one in
        subst (λ (v : Kept). IsRemoveRefusal which row v e) seen (not-removed left right left_on right_on options limit schema groups counts held which row e two)

    pub take-told : (row : Row) (after : GroupList) (removal : TakenRow) → IsRemoval j right_built row groups counts removal →
        HasGroup removal.edit.code (group_without right_built removal.place (group_at removal.edit.code groups)) groups after → AreSorted after → IsTaken which row schema now (at after) after removal.edit.counts removal.edit.delta
    take-told row after removal is has sorted =
        let group = subst (λ (b : Bool). HasGroup removal.edit.code (group_without b removal.place (group_at removal.edit.code groups)) groups after) built has in
        subst (λ (v : Kept). IsTaken which row schema v (at after) after removal.edit.counts removal.edit.delta) seen (removed left right left_on right_on options limit schema groups counts held which row after removal (removal-here row removal is) group sorted)

    pub there-told : (row : Row) (removal : TakenRow) → IsRemoval j right_built row groups counts removal → 0 < times_on which row now
    there-told row removal is = subst (λ (v : Kept). 0 < times_on which row v) seen (stood left right left_on right_on options limit schema groups counts held which row removal (removal-here row removal is))

-- ---- answers that are passed on

pub err-told : {X E : Type 0} (r : Result X E) (e : E) (P : E → Type 0) → IsErrAnd r (λ f. f ≡ e) → P e → IfErr r P
err-told (Ok x) e P h p = tt
err-told (Err f) e P h p = subst P (sym h) p

pub on-err : {X E : Type 0} (r : Result X E) (P : Type 0) → P → OnErr r P
on-err (Ok x) P p = tt
on-err (Err e) P p = p

pub ok-told : {X E : Type 0} (r : Result X E) (P Q : X → Type 0) → ((x : X) → P x → Q x) → IfOk r P → IfOk r Q
ok-told (Ok x) P Q f h = f x h
ok-told (Err e) P Q f h = tt
