use Rattle.std.proofs.Common.{◌≡◌, refl, sym, ap, ◌∙◌, Some, None, false, true≢false}
use Rattle.std.specs.BTreeMap.{get_by_text}
use Rattle.std.specs.Option.{option_copied}
use Rattle.pipe_why_value.proofs.Orders.{has_last, is_last_here, is_last_there}
use Rattle.pipe_why_value.proofs.order.last_at.Goals as goal

pub returns-in_default : goal.returns-in_default
returns-in_default c = λ names are inside at. (
  λ some. absurd (true≢false (sym some)),
  λ here. absurd (has_last names c.args.lasts.now c.args.name.now c.args.place are (sym c.get.ensures.value ∙ ap option_copied c.in_default.is) here),
)

pub returns-then-last-place : goal.returns-then-last-place
returns-then-last-place c = λ names are inside at. (
  λ some. absurd (true≢false (sym some)),
  λ here. absurd (is_last_there names c.args.lasts.now c.args.name.now c.in-Some.last.now c.args.place are
      (sym c.get.ensures.value ∙ ap option_copied c.in-Some.is) (λ same. c.if-last-place.true same) here),
)

pub returns : goal.returns
returns c = λ names are inside at. (
  λ some. is_last_here names c.args.lasts.now c.args.name.now c.in-Some.last.now c.args.place are
      (sym c.get.ensures.value ∙ ap option_copied c.in-Some.is) (c.if-last-place.false),
  λ here. refl,
)
