use Rattle.std.proofs.Common.{sym, subst, ◌∙◌}
use Rattle.std.specs.Prelude.{IsSome}
use Rattle.pipe_why_text.specs.declared.steps.Step.TheVariants as step
use Rattle.pipe_why_value.specs.Places.{IsOwn}
use Rattle.pipe_why_value.proofs.Looks.{looked_behind, noted_within}
use Rattle.pipe_why_value.proofs.walk.Walk.note_item.Goals as goal

pub returns-clause-some : goal.returns-clause-some
returns-clause-some c = subst (λ f. IsSome f) (sym c.leave.ensures.first) c.in_ok-note.ensures.some

pub returns-clause-looked : goal.returns-clause-looked
returns-clause-looked c = λ p e there good bad own unsaid.
    let s = step.Item c.args.i in
    let entered = c.enter_item.new.self in
    looked_behind s p c.args.self.now entered c.note.new.self c.leave.new.self c.in_ok-enter_item.ensures
    (noted_within s p e c.args.wrong entered c.note.new.self c.in_ok-note.ensures.noted there (λ none. good (sym c.in_ok-enter_item.ensures.first ∙ none)) (λ above was. bad entered.steps.items)
    (λ root above was here. subst (λ t. IsOwn root c.args.wrong t) (sym was) (own root above here)) unsaid)
    c.leave.ensures
