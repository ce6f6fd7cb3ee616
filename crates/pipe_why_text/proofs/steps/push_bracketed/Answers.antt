use Rattle.std.proofs.Common.{◌≡◌, ◌++◌, refl, sym, ap, ◌∙◌, subst, arith}
use Rattle.std.specs.Prelude.{codes, decimal, string_bytes}
use Rattle.pipe_why_text.proofs.Writes.{appended_thrice}
use Rattle.pipe_why_text.proofs.steps.push_bracketed.Goals as goal

pub returns : goal.returns
returns c =
    let inside = c.as_str.result.now in (
      codes "[" ++ inside ++ codes "]",
      appended_thrice (string_bytes c.args.out.now) (codes "[") inside (codes "]") _ _ _ c.in_ok-push_str.ensures.bytes c.in_ok-push_str-2.ensures.bytes c.in_ok-push_str-3.ensures.bytes,
      (inside, refl),
    )
