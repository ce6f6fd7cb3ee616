use Rattle.std.proofs.Common.{◌≡◌, ◌++◌, refl, sym, ap, ◌∙◌, subst, arith}
use Rattle.std.specs.Prelude.{codes, decimal, string_bytes}
use Rattle.pipe_why_text.proofs.Writes.{appended_thrice}
use Rattle.pipe_why_text.proofs.steps.push_item.Goals as goal

pub returns : goal.returns
returns c =
    let first = c.in_ok-push_str.ensures.bytes in
    let second = c.in_ok-push_str-2.ensures.bytes in
    appended_thrice (string_bytes c.args.out.now) (codes "[") (decimal c.args.i) (codes "]") _ _ _ first (second ∙ ap (λ d. string_bytes c.push_str.new.self ++ d) c.format.ensures.text)
    c.in_ok-push_str-3.ensures.bytes
