use Rattle.std.proofs.Common.{refl, sym, ap, ◌∙◌, Some}
use Rattle.pipe_value.specs.View.{view}
use Rattle.pipe_why_text.specs.declared.steps.Step.TheVariants as step
use Rattle.pipe_why_text.specs.declared.want.Want.TheVariants as want
use Rattle.pipe_why_text.specs.declared.want.Foreign.TheVariants as foreign
use Rattle.pipe_why_value.specs.Order.{tree_part}
use Rattle.pipe_why_value.proofs.Goods.{edit_within}
use Rattle.pipe_why_value.proofs.Looks.{all_good, good_part, item_there, looked_inside, wanted_item}
use Rattle.pipe_why_value.proofs.edits.look_at_word.Goals as goal

pub returns-clause-looked : goal.returns-clause-looked
returns-clause-looked c = λ t may good.
    let d = view c.args.edit.now in
    let e = view c.value.result.now in
    looked_inside (step.Item c.args.place) (want.Foreign foreign.Edit, d, t) (want.Foreign c.args.want, e, tree_part (step.Item c.args.place) t) c.args.walk.now c.enter_item.new.self c.judge.new.self c.leave.new.self
    (wanted_item (want.Foreign foreign.Edit) (want.Foreign c.args.want) d e t (tree_part (step.Item c.args.place) t) c.args.place may
    (item_there d c.args.place c.requires ∙ ap Some (sym (c.value.ensures ∙ c.in_ok-word.ensures))) refl)
    good c.in_ok-enter_item.ensures (c.in_ok-judge.ensures.looked (tree_part (step.Item c.args.place) t) (λ untold. edit_within c.args.place (want.Foreign c.args.want) e (tree_part (step.Item c.args.place) t) may)) c.leave.ensures

pub returns-clause-good : goal.returns-clause-good
returns-clause-good c = λ t may none.
    let d = view c.args.edit.now in
    let e = view c.value.result.now in
    good_part (step.Item c.args.place) (want.Foreign foreign.Edit, d, t) (want.Foreign c.args.want, e, tree_part (step.Item c.args.place) t)
    (wanted_item (want.Foreign foreign.Edit) (want.Foreign c.args.want) d e t (tree_part (step.Item c.args.place) t) c.args.place may
    (item_there d c.args.place c.requires ∙ ap Some (sym (c.value.ensures ∙ c.in_ok-word.ensures))) refl)
    (all_good (want.Foreign c.args.want, e, tree_part (step.Item c.args.place) t) (c.in_ok-judge.ensures.good (sym c.leave.ensures.first ∙ none))
    (edit_within c.args.place (want.Foreign c.args.want) e (tree_part (step.Item c.args.place) t) may))
