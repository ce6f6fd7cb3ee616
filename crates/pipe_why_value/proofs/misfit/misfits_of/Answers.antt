use Rattle.std.proofs.Common.{◌≡◌, sym, ap, ap₂, ◌∙◌, subst}
use Rattle.std.specs.Prelude.{IfSome}
use Rattle.json.specs.Value.{value_view}
use Rattle.pipe_value.specs.View.{view}
use Rattle.pipe_why_value.specs.Order.{IsWritten, tree_of}
use Rattle.pipe_why_value.specs.Places.{IsTold, Place, TellsInner, whole_want}
use Rattle.pipe_why_value.proofs.Goods.{inner_told, told_whole}
use Rattle.pipe_why_value.proofs.Writing.{text_written}
use Rattle.pipe_why_value.proofs.misfit.misfits_of.Goals as goal

pub look_at-requires : goal.look_at-requires
look_at-requires c =
    let d = view c.args.value.now in
    record { written = subst (λ j. IsWritten j d) (sym c.in_ok-tree.ensures) (text_written c.args.text.now d c.requires) }

pub returns-clause-told : goal.returns-clause-told
returns-clause-told c =
    let d = view c.args.value.now in
    let root : Place = (whole_want c.args.kind, d, tree_of c.args.text.now) in
    let p : Place = (c.whole_of.result, d, value_view c.in_ok-tree.tree) in
    let same : root ≡ p = ap₂ (λ w t. (w, d, t)) (sym c.whole_of.ensures) (sym c.in_ok-tree.ensures) in
    subst (λ f. IfSome f (IsTold root)) (sym c.misfits.ensures)
    (told_whole root p c.new-walk.result c.look_at.new.walk c.in_ok-look_at.ensures.looked c.new-walk.ensures.steps c.new-walk.ensures.first same)

pub returns-clause-innermost : goal.returns-clause-innermost
returns-clause-innermost c =
    let d = view c.args.value.now in
    let root : Place = (whole_want c.args.kind, d, tree_of c.args.text.now) in
    let p : Place = (c.whole_of.result, d, value_view c.in_ok-tree.tree) in
    let same : root ≡ p = ap₂ (λ w t. (w, d, t)) (sym c.whole_of.ensures) (sym c.in_ok-tree.ensures) in
    subst (λ f. IfSome f (TellsInner root)) (sym c.misfits.ensures)
    (inner_told root c.look_at.new.walk.first
    (told_whole root p c.new-walk.result c.look_at.new.walk c.in_ok-look_at.ensures.looked c.new-walk.ensures.steps c.new-walk.ensures.first same))

pub returns-clause-none : goal.returns-clause-none
returns-clause-none c = λ job. (
  (λ none. c.in_ok-look_at.ensures.job (sym c.misfits.ensures ∙ none) (c.whole_of.ensures ∙ ap whole_want job)),
  (λ spelled. absurd (c.in_ok-is_good_job.ensures.no c.if-branch.false job spelled.0 spelled.1)),
)
