use Rattle.std.proofs.Common.{◌≡◌, refl, sym, ◌∙◌, None}
use Rattle.pipe_value.specs.View.{view}
use Rattle.pipe_why_text.specs.declared.steps.Step.TheVariants as step
use Rattle.pipe_why_text.specs.declared.want.Want.TheVariants as want
use Rattle.std.specs.Prelude.{codes}
use Rattle.pipe_why_value.specs.Order.{tree_part}
use Rattle.pipe_why_value.specs.Places.{AreGoodParts, Place}
use Rattle.pipe_why_value.proofs.Orders.{passes_columns}
use Rattle.pipe_why_value.proofs.Looks.{good_parts_at, looked_inside, looked_twice, was_untold, wanted_member}
use Rattle.pipe_why_value.proofs.table.look_at_table.Goals as goal

pub returns : goal.returns
returns c = λ t good.
    let d = view c.args.value.now in
    let u = tree_part (step.Member (codes "columns")) t in
    let e = view c.in-Some.columns.now in
    let p : Place = (want.Columns, e, u) in
    let entered = c.enter.new.self in
    let there = wanted_member want.Frame want.Columns d e t u (codes "columns") refl (sym c.in-Some.ensures) refl in
    let at_first : entered.first ≡ None → AreGoodParts p = λ none. good_parts_at (want.Frame, d, t) p (step.Member (codes "columns")) (good (sym c.in_ok-enter.ensures.first ∙ none)) there in
    let counted = c.in_ok-look_at_count.ensures u in
    let named = c.in_ok-look_at_names.ensures u (λ none. at_first (was_untold entered.first c.look_at_count.new.walk.first counted.kept none)) in
    let both = looked_twice p entered c.look_at_count.new.walk c.look_at_names.new.walk counted named in
    looked_inside (step.Member (codes "columns")) (want.Frame, d, t) p c.args.walk.now entered c.look_at_heights.new.walk c.leave.new.self
    there (λ none. passes_columns d t) c.in_ok-enter.ensures
    (looked_twice p entered c.look_at_names.new.walk c.look_at_heights.new.walk both
    (c.in_ok-look_at_heights.ensures u (λ none. at_first (was_untold entered.first c.look_at_names.new.walk.first both.kept none))))
    c.leave.ensures
