use Rattle.std.proofs.Common.{◌≡◌, ◌++◌, refl, sym, ap, ◌∙◌, subst, arith}
use Rattle.std.specs.Prelude.{codes, decimal, string_bytes}
use Rattle.pipe_why_text.specs.Places.{plain_text}
use Rattle.pipe_why_text.proofs.Writes.{appended_twice}
use Rattle.pipe_why_text.proofs.steps.push_plain.Goals as goal

pub returns-then-is_first : goal.returns-then-is_first
returns-then-is_first c = c.in_ok-push_str.ensures.bytes ∙ ap (λ b. string_bytes c.args.out.now ++ plain_text b c.args.name.now) (sym c.if-is_first.true)

pub returns : goal.returns
returns c =
    appended_twice (string_bytes c.args.out.now) (codes ".") c.args.name.now _ _ c.in_ok-push_str-2.ensures.bytes c.in_ok-push_str-3.ensures.bytes
    ∙ ap (λ b. string_bytes c.args.out.now ++ plain_text b c.args.name.now) (sym c.if-is_first.false)
