use Rattle.std.proofs.Common.{◌≡◌, ◌++◌, refl, sym, ap, ◌∙◌, subst, arith}
use Rattle.std.specs.Prelude.{codes, decimal, string_bytes}
use Rattle.pipe_why_text.specs.Places.{IsNameText, IsStepText, is_plain}
use Rattle.pipe_why_text.proofs.Writes.{on_ok}
use Rattle.pipe_why_text.proofs.steps.push_step.Goals as goal

pub returns-in-Item : goal.returns-in-Item
returns-in-Item c =
    let text = codes "[" ++ decimal c.in-Item.i ++ codes "]" in
    on_ok c.push_item.result
    (λ wrote. (text, wrote, subst (λ s. IsStepText c.args.is_first s text) (sym c.in-Item.is) refl))
    c.push_item.ensures

pub returns-in-Member : goal.returns-in-Member
returns-in-Member c =
    on_ok c.push_member.result
    (λ wrote. (
      wrote.0,
      wrote.1,
      subst (λ s. IsStepText c.args.is_first s wrote.0) (sym c.in-Member.is)
          (subst (λ n. IsNameText c.args.is_first n (is_plain n) wrote.0) c.as_str.ensures wrote.2),
    ))
    c.push_member.ensures
