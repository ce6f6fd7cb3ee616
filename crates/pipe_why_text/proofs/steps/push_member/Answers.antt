use Rattle.std.proofs.Common.{◌≡◌, ◌++◌, refl, sym, ap, ◌∙◌, subst, arith}
use Rattle.std.specs.Prelude.{codes, decimal, string_bytes}
use Rattle.pipe_why_text.specs.Places.{IsNameText, plain_text}
use Rattle.pipe_why_text.proofs.Writes.{on_ok}
use Rattle.pipe_why_text.proofs.steps.push_member.Goals as goal

pub returns-then-is_plain : goal.returns-then-is_plain
returns-then-is_plain c =
    let name = c.args.name.now in
    let text = plain_text c.args.is_first name in
    on_ok c.push_plain.result
    (λ wrote. (text, wrote, subst (λ b. IsNameText c.args.is_first name b text) (sym c.if-is_plain.true ∙ c.is_plain.ensures) refl))
    c.push_plain.ensures

pub returns-else-is_plain : goal.returns-else-is_plain
returns-else-is_plain c =
    let name = c.args.name.now in
    on_ok c.push_bracketed.result
    (λ wrote. (wrote.0, wrote.1, subst (λ b. IsNameText c.args.is_first name b wrote.0) (sym c.if-is_plain.false ∙ c.is_plain.ensures) wrote.2))
    c.push_bracketed.ensures
