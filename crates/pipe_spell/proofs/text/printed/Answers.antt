use Rattle.std.proofs.Common.{◌≡◌, ◌++◌, sym, ap, ◌∙◌, subst}
use Rattle.std.specs.Str.{IsUtf8}
use Rattle.json.specs.Print.{ArePrintable, print}
use Rattle.pipe_value.specs.View.{view}
use Rattle.serde_json.specs.Written.{WritesValue}
use Rattle.pipe_spell.specs.Printed.{IsPrinted}
use Rattle.pipe_spell.proofs.text.printed.Goals as goal

pub returns : goal.returns
unfolding ArePrintable
returns c =
    let ts = c.write.new.out.tokens in
    let text : c.into_inner.result.items ≡ print ts =
    c.into_inner.ensures.items ∙ ap (λ b. b ++ print ts) (c.write.ensures.before ∙ c.new-out.ensures.before ∙ c.in_ok-with_capacity.ensures.items) in
    let all : IsPrinted (view c.args.value.now) c.into_inner.result.items = record {
      written = ts;
      wrote = subst (λ old. WritesValue (view c.args.value.now) old ts) c.new-out.ensures.tokens c.in_ok-write.ensures.ok;
      printable = c.in_ok-write.ensures.printable (subst ArePrintable (sym c.new-out.ensures.tokens) tt);
      text_is = text;
      again = c.into_inner.ensures.reads_back;
      utf8 = subst IsUtf8 (sym text) c.into_inner.ensures.utf8;
    } in
    record { printed = all }
