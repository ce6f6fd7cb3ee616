-- Views that are made and edited: what is known of the view that is asked for holds of the view that was made of it.
use Rattle.std.proofs.Common.{Result, Ok, Err, ◌≡◌, ◌⊎◌, ◌++◌, ℕ, suc, Bool, true, false, not, List, [], ◌∷◌, Option, Some, None, length, inl, inr, refl, ap, sym, ◌∙◌}
use Rattle.std.specs.List.{AllByRecursion, flat_map}
use Rattle.std.specs.Prelude.{IfErr}
use Rattle.std.specs.Result.{IsErrAnd}
use Rattle.pipe_check.specs.Checked.{check_fault}
use Rattle.pipe_expr.specs.Joins.{Join, join_fields}
use Rattle.pipe_schema.specs.Rows.{Row, Same}
use Rattle.pipe_schema.specs.declared.field.Field.{Field}
use Rattle.pipe_job.specs.Line.{head_line, row_line}
use Rattle.pipe_plan.specs.Faults.{or_else, told}
use Rattle.pipe_plan.specs.declared.error.PipeError.{PipeError}
use Rattle.pipe_plan.specs.declared.error.PipeError.TheVariants as error
use Rattle.pipe_view.specs.Kept.{Kept, IsSameView, fields_on, view_fields, view_over, view_plan, view_rows}
use Rattle.pipe_view.specs.Played.{AreWide, IsStuck, after_edit, after_edits, outcome_of, outcomes_of}
use Rattle.pipe_view.specs.Refusals.{first_over, view_fault}
use Rattle.pipe_view.specs.Sides.{is_view_kind}
use Rattle.pipe_view.specs.declared.row_edit.Outcome.{Outcome}
use Rattle.pipe_view.specs.declared.row_edit.RowEdit.{RowEdit}
use Rattle.pipe_view.specs.declared.side.ViewSide.{ViewSide}
use Rattle.pipe_view.specs.declared.side.ViewSide.TheVariants as side
use Rattle.pipe_view.proofs.Growing.{join-same}
use Rattle.pipe_view.proofs.Listed.{after-alike, kind-after, outcome-alike, rows-same}
use Rattle.pipe_view.proofs.Lists.{kind-edits, over-alike}
use Rattle.pipe_view.specs.EditLines.{outcome_lines}
use Rattle.pipe_view.specs.EditSpelling.{EditFits, RowFits, columns_on}
use Rattle.pipe_view.specs.ReplayEnds.{AreLines, AreReplayLines, IsBadLimit, IsGoodView, IsRefusedReplay, IsSoundReplay, IsViewFault, IsViewOf}
use Rattle.pipe_view.specs.ReplaySpelling.{replay_task}
use Rattle.pipe_view.specs.declared.replay.Replay.{Replay}

-- the view that is asked for
abbrev pub asked : Replay → Kept
asked r = view_over r.left r.right r.join.left_on r.join.right_on r.join.options r.row_limit

asked_is : (r : Replay) → IsViewOf (replay_task r) (asked r)
asked_is r = record { left = refl; right = refl; join = refl; limit = refl }

-- ---- a view without a fault is an inner, a left or a full join

right_none : (a b : Option PipeError) → or_else a b ≡ None → b ≡ None
right_none None b h = h
right_none (Some e) b h = absurd (cc)

left_none : (a b : Option PipeError) → or_else a b ≡ None → a ≡ None
left_none None b h = refl
left_none (Some e) b h = absurd (cc)

untold : (b : Bool) (e : PipeError) → told (not b) e ≡ None → b ≡ true
untold true e h = refl
untold false e h = absurd (cc)

kind_of : (v : Kept) → view_fault v ≡ None → is_view_kind v.options.how ≡ true
kind_of v h =
    let other = told (not (is_view_kind v.options.how)) (error.BadJoin 2) in
    let rest = right_none (check_fault (view_plan v) 2) (or_else other (first_over v)) h in
    untold (is_view_kind v.options.how) (error.BadJoin 2) (left_none other (first_over v) rest)

-- ---- rows as wide as their tables

row_wide : (fields : List Field) (row : Row) → RowFits fields row → length row ≡ length fields
row_wide [] [] h = refl
row_wide [] (x ∷ row) h = absurd h
row_wide (f ∷ fields) [] h = absurd h
row_wide (f ∷ fields) (x ∷ row) h = ap (λ (n : ℕ). suc n) (row_wide fields row h.1)

side_fields : (which : ViewSide) (r : Replay) (now : Kept) → IsSameView now (asked r) → columns_on which r.left.schema r.right.schema ≡ fields_on which now
side_fields side.Left r now same = sym same.left_schema
side_fields side.Right r now same = sym same.right_schema

each_wide : (r : Replay) (now : Kept) (edits : List RowEdit) → IsSameView now (asked r) → AllByRecursion (EditFits r.left.schema r.right.schema) edits → AreWide edits now
each_wide r now [] same h = tt
each_wide r now (edit ∷ edits) same h = (row_wide _ edit.row h.0 ∙ ap (λ (fs : List Field). length fs) (side_fields edit.side r now same), each_wide r now edits same h.1)

pub all_wide : (r : Replay) (now : Kept) → IsSameView now (asked r) → AllByRecursion (EditFits r.left.schema r.right.schema) r.edits → AreWide r.edits now
all_wide r now same h = each_wide r now r.edits same h

-- ---- edits of two views with the same tables

afters_alike : (edits : List RowEdit) (a b : Kept) → IsSameView a b → IsSameView (after_edits edits a) (after_edits edits b)
afters_alike [] a b h = h
afters_alike (edit ∷ edits) a b h = afters_alike edits (after_edit edit a) (after_edit edit b) (after-alike edit.kind edit.side edit.row a b h)

outcomes_alike : (edits : List RowEdit) (a b : Kept) → IsSameView a b → is_view_kind b.options.how ≡ true → outcomes_of edits a ≡ outcomes_of edits b
outcomes_alike [] a b h k = refl
outcomes_alike (edit ∷ edits) a b h k =
    ap (λ (o : Outcome). o ∷ outcomes_of edits (after_edit edit a)) (outcome-alike edit.kind edit.side edit.row a b h k)
    ∙ ap (λ (os : List Outcome). outcome_of edit b ∷ os) (outcomes_alike edits (after_edit edit a) (after_edit edit b) (after-alike edit.kind edit.side edit.row a b h) (kind-after edit.kind edit.side edit.row b k))

stuck_alike : (edits : List RowEdit) (a b : Kept) → IsSameView a b → is_view_kind b.options.how ≡ true → IsStuck edits a → IsStuck edits b
stuck_alike [] a b h k s = s
stuck_alike (edit ∷ edits) a b h k (inl s) = inl (s.0, over-alike (after_edit edit a) (after_edit edit b) (after-alike edit.kind edit.side edit.row a b h) (kind-after edit.kind edit.side edit.row b k) s.1)
stuck_alike (edit ∷ edits) a b h k (inr s) = inr (stuck_alike edits (after_edit edit a) (after_edit edit b) (after-alike edit.kind edit.side edit.row a b h) (kind-after edit.kind edit.side edit.row b k) s)

same_turned : (a b : Kept) → IsSameView a b → IsSameView b a
same_turned a b h = record {
  left_schema = sym h.left_schema;
  right_schema = sym h.right_schema;
  left_on = sym h.left_on;
  right_on = sym h.right_on;
  options = sym h.options;
  limit = sym h.limit;
  left = record { each = λ z. sym (h.left.each z) };
  right = record { each = λ z. sym (h.right.each z) };
}

-- ---- how it ends

-- an error that is passed on
pub passed_on : {X : Type 0} (r : Result X PipeError) (e : PipeError) (P : PipeError → Type 0) → IsErrAnd r (λ f. f ≡ e) → P e → IfErr r P
passed_on (Ok x) e P k h = absurd k
passed_on (Err f) e P k h = rw k h

pub view_refused : (r : Replay) (e : PipeError) → (e ≡ error.Memory) ⊎ (IsBadLimit (asked r) e ⊎ IsViewFault (asked r) e) → (e ≡ error.Memory) ⊎ IsRefusedReplay (replay_task r) e
view_refused r e (inl m) = inl m
view_refused r e (inr (inl bad)) = inr (record { view = asked r; is = asked_is r; cause = inl bad })
view_refused r e (inr (inr fault)) = inr (record { view = asked r; is = asked_is r; cause = inr (inl fault) })

pub edit_refused : (r : Replay) (now : Kept) (e : PipeError) → IsSameView now (asked r) → IsGoodView (asked r) → (e ≡ error.Memory) ⊎ ((e ≡ error.TooMany 2) × IsStuck r.edits now) → (e ≡ error.Memory) ⊎ IsRefusedReplay (replay_task r) e
edit_refused r now e same good (inl m) = inl m
edit_refused r now e same good (inr h) = inr (record { view = asked r; is = asked_is r; cause = inr (inr (h.0, (good, stuck_alike r.edits now (asked r) same (kind_of (asked r) good.good) h.1))) })

pub sound_replay : (r : Replay) (now : Kept) → IsSameView now (asked r) → IsGoodView (asked r) → (IsStuck r.edits now → ⊥) → IsSoundReplay (replay_task r)
sound_replay r now same good free =
    let kept = ap (λ o. is_view_kind o.how) same.options ∙ kind_of (asked r) good.good in
    record { view = asked r; is = asked_is r; good = good; free = λ s. free (stuck_alike r.edits (asked r) now (same_turned now (asked r) same) kept s) }

-- rows in order are those of any view with the same tables
same_through : (a b c : List Row) → Same a b → Same b c → Same a c
same_through a b c h k = record { each = λ z. h.each z ∙ k.each z }

lines_alike : (a b : Kept) (told said : List Outcome) (text : List ℕ) → IsSameView a b → is_view_kind b.options.how ≡ true → told ≡ said → AreLines a told text → AreLines b said text
lines_alike a b told said text h k e l = record {
  rows = l.rows;
  ordered = record { same = same_through l.rows (view_rows a) (view_rows b) l.ordered.same (rows-same a b h k); in_order = l.ordered.in_order };
  whole = l.whole
      ∙ ap (λ (j : Join). head_line (join_fields j) ++ (outcome_lines 0 told ++ flat_map row_line l.rows)) (join-same a b h)
      ∙ ap (λ (os : List Outcome). head_line (view_fields b) ++ (outcome_lines 0 os ++ flat_map row_line l.rows)) e;
}

pub lines_told : (r : Replay) (now later : Kept) (told : List Outcome) (text : List ℕ) → IsSameView now (asked r) → IsGoodView (asked r) → IsSameView later (after_edits r.edits now) → told ≡ outcomes_of r.edits now → AreLines later told text → AreReplayLines (replay_task r) text
lines_told r now later told text same good after outcomes lines =
    let kept = kind_of (asked r) good.good in
    let now_kept = ap (λ o. is_view_kind o.how) same.options ∙ kept in
    let first = lines_alike later (after_edits r.edits now) told (outcomes_of r.edits now) text after (kind-edits r.edits now now_kept) outcomes lines in
    record {
      view = asked r;
      is = asked_is r;
      lines = lines_alike (after_edits r.edits now) (after_edits r.edits (asked r)) (outcomes_of r.edits now) (outcomes_of r.edits (asked r)) text (afters_alike r.edits now (asked r) same) (kind-edits r.edits (asked r) kept) (outcomes_alike r.edits now (asked r) same kept) first;
    }

pub ruleset replay_rules = (all_wide, view_refused, edit_refused, sound_replay, lines_told)
