use Rattle.std.proofs.Common.{◌≡◌, ◌∷◌, ◌+◌, ◌∙◌, drop, refl, sym, ap, subst, arith}
use Rattle.std.proofs.lemmas.List.{drop_more}
use Rattle.std.specs.Prelude.{codes}
use Rattle.pipe_why_text.specs.Places.{IsPlaceText}
use Rattle.pipe_why_text.specs.Writing.{Writing}
use Rattle.pipe_why_text.proofs.Writes.{begun, done, none_of, one_step, some_of}
use Rattle.pipe_why_text.proofs.steps.push_steps.Goals as goal

pub loop-step-init : goal.loop-step-init
loop-step-init c = begun c.args.out.now c.args.steps.now

pub loop-step-preserved : goal.loop-step-preserved
loop-step-preserved c =
    let steps = c.args.steps.now in
    let i = c.loop-step.step-index in
    let s = c.step-item.result in
    one_step c.args.out.now c.loop-step.out _ c.loop-step.is_first s (drop (i + 1) steps) steps
    (subst (λ left. Writing c.args.out.now c.loop-step.out c.loop-step.is_first left steps)
    (drop_more steps i s c.loop-step-test.true ∙ ap (λ t. t ∷ drop (i + 1) steps) (sym c.step-item.is)) c.loop-step.invariant)
    c.in_ok-push_step.ensures

pub returns : goal.returns
returns c =
    let steps = c.args.steps.now in
    done c.args.out.now c.loop-step.out c.loop-step.is_first c.loop-step.step-index steps (some_of steps (sym c.is_empty.ensures ∙ c.if-is_empty.false))
    (omega (arith, c.loop-step-test.false)) c.loop-step.invariant

pub returns-then-is_empty : goal.returns-then-is_empty
returns-then-is_empty c = (
  codes "the whole text",
  c.in_ok-push_str.ensures.bytes,
  subst (λ all. IsPlaceText all (codes "the whole text")) (none_of c.args.steps.now (sym c.is_empty.ensures ∙ c.if-is_empty.true)) refl,
)
