-- A view and its edits end in one way: what is played isn't refused, and what is refused is so by one error.
use Rattle.std.proofs.Common.{◌≡◌, ◌⊎◌, ℕ, true, false, not, nat_lt, List, [], ◌∷◌, Option, None, length, inl, inr, ap, sym, ◌∙◌, arith, true≢false}
use Rattle.std.proofs.lemmas.Option.{none-some, same_Some}
use Rattle.pipe_expr.specs.Formula.{Formula, formulas_of}
use Rattle.pipe_expr.specs.Joins.{join_rows}
use Rattle.pipe_expr.specs.declared.join_words.JoinType.{JoinType}
use Rattle.pipe_check.specs.Checked.{check_fault}
use Rattle.pipe_frame.specs.Frame.{Table}
use Rattle.pipe_schema.specs.Rows.{Row}
use Rattle.pipe_plan.specs.Faults.{or_else, told}
use Rattle.pipe_plan.specs.Node.{Node}
use Rattle.pipe_plan.specs.Node as node
use Rattle.pipe_plan.specs.Plan.{Plan}
use Rattle.pipe_plan.specs.Schemas.{join_over}
use Rattle.pipe_plan.specs.declared.error.PipeError.{PipeError}
use Rattle.pipe_plan.specs.declared.error.PipeError.TheVariants as error
use Rattle.pipe_plan.specs.declared.ir.JoinOptions.{JoinOptions}
use Rattle.pipe_view.specs.Kept.{Kept, IsOver, table_with, view_plan, view_rows}
use Rattle.pipe_view.specs.Played.{IsStuck, after_edit, after_kind, table_without}
use Rattle.pipe_view.specs.Refusals.{first_over, view_fault}
use Rattle.pipe_view.specs.Sides.{is_view_kind}
use Rattle.pipe_view.specs.declared.row_edit.EditKind.{EditKind}
use Rattle.pipe_view.specs.declared.row_edit.EditKind.TheVariants as kind
use Rattle.pipe_view.specs.declared.row_edit.RowEdit.{RowEdit}
use Rattle.pipe_view.specs.declared.side.ViewSide.{ViewSide}
use Rattle.pipe_view.specs.declared.side.ViewSide.TheVariants as side
use Rattle.pipe_view.specs.ReplayEnds.{IsBadLimit, IsEditFault, IsGoodView, IsRefusedReplay, IsSoundReplay, IsViewFault, IsViewOf, is_good_limit}
use Rattle.pipe_view.specs.ReplaySpelling.{ReplayTask}

-- ---- two views of one task differ in the addresses of their keys at most

record Alike (v w : Kept) : Type 0 where
  pub left : v.left ≡ w.left
  pub right : v.right ≡ w.right
  pub left_on : formulas_of v.left_on ≡ formulas_of w.left_on
  pub right_on : formulas_of v.right_on ≡ formulas_of w.right_on
  pub options : v.options ≡ w.options
  pub limit : v.limit ≡ w.limit

alike : (task : ReplayTask) (v w : Kept) → IsViewOf task v → IsViewOf task w → Alike v w
alike task v w h k =
    let joins : node.Join 0 1 (formulas_of v.left_on) (formulas_of v.right_on) v.options ≡ node.Join 0 1 (formulas_of w.left_on) (formulas_of w.right_on) w.options = h.join ∙ sym k.join in
    let left_on : formulas_of v.left_on ≡ formulas_of w.left_on = cc in
    let right_on : formulas_of v.right_on ≡ formulas_of w.right_on = cc in
    let options : v.options ≡ w.options = cc in
    record { left = h.left ∙ sym k.left; right = h.right ∙ sym k.right; left_on = left_on; right_on = right_on; options = options; limit = h.limit ∙ sym k.limit }

-- ---- what is said of views that are alike

-- its fault, by its plan, its kind of join and its sizes
abbrev plan_by : Table → Table → Node → Plan
plan_by left right join = record {
  nodes = node.DataFrameScan 0 None ∷ node.DataFrameScan 1 None ∷ join ∷ [];
  frames = left ∷ right ∷ [];
}

abbrev join_of : Kept → Node
join_of v = node.Join 0 1 (formulas_of v.left_on) (formulas_of v.right_on) v.options

abbrev over_by : (limit left right rows : ℕ) → Option PipeError
over_by limit left right rows =
    or_else (told (nat_lt limit left) (error.TooMany 0))
    (or_else (told (nat_lt limit right) (error.TooMany 1)) (told (nat_lt limit rows) (error.TooMany 2)))

abbrev fault_of : Plan → JoinType → Option PipeError → Option PipeError
fault_of plan how over = or_else (check_fault plan 2) (or_else (told (not (is_view_kind how)) (error.BadJoin 2)) over)

same_plan : (v w : Kept) → Alike v w → view_plan v ≡ view_plan w
same_plan v w h =
    ap (λ (t : Table). plan_by t v.right (join_of v)) h.left
    ∙ ap (λ (t : Table). plan_by w.left t (join_of v)) h.right
    ∙ ap (λ (fs : List Formula). plan_by w.left w.right (node.Join 0 1 fs (formulas_of v.right_on) v.options)) h.left_on
    ∙ ap (λ (fs : List Formula). plan_by w.left w.right (node.Join 0 1 (formulas_of w.left_on) fs v.options)) h.right_on
    ∙ ap (λ (o : JoinOptions). plan_by w.left w.right (node.Join 0 1 (formulas_of w.left_on) (formulas_of w.right_on) o)) h.options

same_rows : (v w : Kept) → Alike v w → view_rows v ≡ view_rows w
same_rows v w h =
    ap (λ (t : Table). join_rows (join_over t.schema v.right.schema (formulas_of v.left_on) (formulas_of v.right_on) v.options) t.rows v.right.rows) h.left
    ∙ ap (λ (t : Table). join_rows (join_over w.left.schema t.schema (formulas_of v.left_on) (formulas_of v.right_on) v.options) w.left.rows t.rows) h.right
    ∙ ap (λ (fs : List Formula). join_rows (join_over w.left.schema w.right.schema fs (formulas_of v.right_on) v.options) w.left.rows w.right.rows) h.left_on
    ∙ ap (λ (fs : List Formula). join_rows (join_over w.left.schema w.right.schema (formulas_of w.left_on) fs v.options) w.left.rows w.right.rows) h.right_on
    ∙ ap (λ (o : JoinOptions). join_rows (join_over w.left.schema w.right.schema (formulas_of w.left_on) (formulas_of w.right_on) o) w.left.rows w.right.rows) h.options

same_over : (v w : Kept) → Alike v w → first_over v ≡ first_over w
same_over v w h =
    ap (λ (n : ℕ). over_by n (length v.left.rows) (length v.right.rows) (length (view_rows v))) h.limit
    ∙ ap (λ (t : Table). over_by w.limit (length t.rows) (length v.right.rows) (length (view_rows v))) h.left
    ∙ ap (λ (t : Table). over_by w.limit (length w.left.rows) (length t.rows) (length (view_rows v))) h.right
    ∙ ap (λ (rows : List Row). over_by w.limit (length w.left.rows) (length w.right.rows) (length rows)) (same_rows v w h)

after_alike : (k : EditKind) (which : ViewSide) (row : Row) (v w : Kept) → Alike v w → Alike (after_kind k which row v) (after_kind k which row w)
after_alike kind.Insert side.Left row v w h = record { left = ap (table_with row) h.left; right = h.right; left_on = h.left_on; right_on = h.right_on; options = h.options; limit = h.limit }
after_alike kind.Insert side.Right row v w h = record { left = h.left; right = ap (table_with row) h.right; left_on = h.left_on; right_on = h.right_on; options = h.options; limit = h.limit }
after_alike kind.Remove side.Left row v w h = record { left = ap (table_without row) h.left; right = h.right; left_on = h.left_on; right_on = h.right_on; options = h.options; limit = h.limit }
after_alike kind.Remove side.Right row v w h = record { left = h.left; right = ap (table_without row) h.right; left_on = h.left_on; right_on = h.right_on; options = h.options; limit = h.limit }

over_alike : (v w : Kept) → Alike v w → IsOver v → IsOver w
over_alike v w h (inl o) = inl (let same = ap (λ (t : Table). length t.rows) h.left in let most = h.limit in omega (arith, o, same, most))
over_alike v w h (inr (inl o)) = inr (inl (let same = ap (λ (t : Table). length t.rows) h.right in let most = h.limit in omega (arith, o, same, most)))
over_alike v w h (inr (inr o)) = inr (inr (let same = ap (λ (rows : List Row). length rows) (same_rows v w h) in let most = h.limit in omega (arith, o, same, most)))

stuck_alike : (edits : List RowEdit) (v w : Kept) → Alike v w → IsStuck edits v → IsStuck edits w
stuck_alike [] v w h s = s
stuck_alike (edit ∷ edits) v w h (inl s) = inl (s.0, over_alike (after_edit edit v) (after_edit edit w) (after_alike edit.kind edit.side edit.row v w h) s.1)
stuck_alike (edit ∷ edits) v w h (inr s) = inr (stuck_alike edits (after_edit edit v) (after_edit edit w) (after_alike edit.kind edit.side edit.row v w h) s)

same_fault : (v w : Kept) → Alike v w → view_fault v ≡ view_fault w
same_fault v w h =
    ap (λ (p : Plan). fault_of p v.options.how (first_over v)) (same_plan v w h)
    ∙ ap (λ (o : JoinOptions). fault_of (view_plan w) o.how (first_over v)) h.options
    ∙ ap (λ (o : Option PipeError). fault_of (view_plan w) w.options.how o) (same_over v w h)

good_alike : (v w : Kept) → Alike v w → IsGoodView v → IsGoodView w
good_alike v w h g = record { limit = sym (ap is_good_limit h.limit) ∙ g.limit; good = sym (same_fault v w h) ∙ g.good }

-- ---- how they end

-- what is played isn't refused,
not_for : (v : Kept) (edits : List RowEdit) (e : PipeError) → IsGoodView v → (IsStuck edits v → ⊥) → IsBadLimit v e ⊎ (IsViewFault v e ⊎ IsEditFault edits v e) → ⊥
not_for v edits e good free (inl bad) = true≢false (sym good.limit ∙ bad.1)
not_for v edits e good free (inr (inl fault)) = none-some e (sym good.good ∙ fault.1)
not_for v edits e good free (inr (inr stuck)) = free stuck.1.1

pub sound_alone : (task : ReplayTask) (e : PipeError) → IsSoundReplay task → IsRefusedReplay task e → ⊥
sound_alone task e s r =
    let h = alike task s.view r.view s.is r.is in
    let back = alike task r.view s.view r.is s.is in
    not_for r.view task.edits e (good_alike s.view r.view h s.good) (λ (stuck : IsStuck task.edits r.view). s.free (stuck_alike task.edits r.view s.view back stuck)) r.cause

-- and what is refused is so by one error
one_for : (v w : Kept) (edits : List RowEdit) (d e : PipeError) → Alike v w → IsBadLimit v d ⊎ (IsViewFault v d ⊎ IsEditFault edits v d) → IsBadLimit w e ⊎ (IsViewFault w e ⊎ IsEditFault edits w e) → d ≡ e
one_for v w edits d e h (inl a) (inl b) = a.0 ∙ sym b.0
one_for v w edits d e h (inl a) (inr (inl b)) = absurd (true≢false (sym b.0 ∙ sym (ap is_good_limit h.limit) ∙ a.1))
one_for v w edits d e h (inl a) (inr (inr b)) = absurd (true≢false (sym b.1.0.limit ∙ sym (ap is_good_limit h.limit) ∙ a.1))
one_for v w edits d e h (inr (inl a)) (inl b) = absurd (true≢false (sym a.0 ∙ ap is_good_limit h.limit ∙ b.1))
one_for v w edits d e h (inr (inr a)) (inl b) = absurd (true≢false (sym a.1.0.limit ∙ ap is_good_limit h.limit ∙ b.1))
one_for v w edits d e h (inr (inl a)) (inr (inl b)) = same_Some _ _ (sym a.1 ∙ same_fault v w h ∙ b.1)
one_for v w edits d e h (inr (inl a)) (inr (inr b)) = absurd (none-some d (sym b.1.0.good ∙ sym (same_fault v w h) ∙ a.1))
one_for v w edits d e h (inr (inr a)) (inr (inl b)) = absurd (none-some e (sym a.1.0.good ∙ same_fault v w h ∙ b.1))
one_for v w edits d e h (inr (inr a)) (inr (inr b)) = a.0 ∙ sym b.0

pub one_refusal : (task : ReplayTask) (d e : PipeError) → IsRefusedReplay task d → IsRefusedReplay task e → d ≡ e
one_refusal task d e r q = one_for r.view q.view task.edits d e (alike task r.view q.view r.is q.is) r.cause q.cause
