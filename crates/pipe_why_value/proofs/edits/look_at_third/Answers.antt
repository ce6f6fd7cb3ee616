use Rattle.std.proofs.Common.{refl, sym, ap, ◌∙◌, arith, Some}
use Rattle.pipe_value.specs.View.{view}
use Rattle.pipe_why_text.specs.declared.steps.Step.TheVariants as step
use Rattle.pipe_why_text.specs.declared.want.Want.TheVariants as want
use Rattle.pipe_why_text.specs.declared.want.Foreign.TheVariants as foreign
use Rattle.pipe_why_value.specs.Order.{tree_part}
use Rattle.pipe_why_value.proofs.Looks.{good_part, item_there, looked_inside, wanted_item}
use Rattle.pipe_why_value.proofs.edits.look_at_third.Goals as goal

pub returns-clause-looked : goal.returns-clause-looked
returns-clause-looked c = λ t good.
    let d = view c.args.edit.now in
    let e = view c.value-2.result.now in
    looked_inside (step.Item 2) (want.Foreign foreign.Edit, d, t) (want.Foreign foreign.Row, e, tree_part (step.Item 2) t) c.args.walk.now c.enter_item.new.self c.look_at_row.new.walk c.leave.new.self
    (wanted_item (want.Foreign foreign.Edit) (want.Foreign foreign.Row) d e t (tree_part (step.Item 2) t) 2 refl
    (item_there d 2 (omega (arith, c.requires)) ∙ ap Some (sym (c.value-2.ensures ∙ c.in_ok-row.ensures))) refl)
    good
    c.in_ok-enter_item.ensures (c.in_ok-look_at_row.ensures.looked (tree_part (step.Item 2) t)) c.leave.ensures

pub returns-clause-good : goal.returns-clause-good
returns-clause-good c = λ t none.
    let d = view c.args.edit.now in
    let e = view c.value-2.result.now in
    good_part (step.Item 2) (want.Foreign foreign.Edit, d, t) (want.Foreign foreign.Row, e, tree_part (step.Item 2) t)
    (wanted_item (want.Foreign foreign.Edit) (want.Foreign foreign.Row) d e t (tree_part (step.Item 2) t) 2 refl
    (item_there d 2 (omega (arith, c.requires)) ∙ ap Some (sym (c.value-2.ensures ∙ c.in_ok-row.ensures))) refl)
    (c.in_ok-look_at_row.ensures.good (tree_part (step.Item 2) t) (sym c.leave.ensures.first ∙ none))
