use Rattle.std.proofs.Common.{◌≡◌, ap, subst, ◌∙◌}
use Rattle.std.specs.Prelude.{Option, IsUtf8}
use Rattle.std.specs.Option.{MatchOption}
use Rattle.pipe_schema.specs.declared.any_value.AnyValue.{AnyValue}
use Rattle.pipe_schema.specs.declared.any_value.AnyValue.TheVariants as cell
use Rattle.pipe_rows.specs.declared.decode_value.Unescaped.{Unescaped}
use Rattle.pipe_column.specs.Native.{InRange}
use Rattle.pipe_rows.specs.Ordered.{directed_bytes}
use Rattle.pipe_rows.specs.Decoding.{FindsText}
use Rattle.pipe_rows.proofs.BytesLemmas.{bytes_all}
use Rattle.pipe_rows.proofs.ValueLemmas.{string_taken, string_none, string_other}
use Rattle.pipe_rows.proofs.decode_value.take_string.Goals as goal

pub returns-in_default : goal.returns-in_default
returns-in_default c =
    let P : Option Unescaped → Type 0 = λ found. FindsText (directed_bytes c.args.descending c.args.rest.now) found in
    string_none c.args.descending c.args.rest.now (subst P c.in_default.is c.in_ok-text.ensures)

pub returns-in-Some-2 : goal.returns-in-Some-2
returns-in-Some-2 c =
    let P : Option Unescaped → Type 0 = λ found. FindsText (directed_bytes c.args.descending c.args.rest.now) found in
    let taken = subst P c.in-Some.is c.in_ok-text.ensures in
    let Q : Option AnyValue → Type 0 = λ found. MatchOption found (¬ IsUtf8 c.as_slice.result.now) (λ value. (value ≡ cell.String c.as_slice.result.now) × InRange value) in
    let made = subst Q c.in-Some-2.is c.in_ok-value.ensures in
    string_taken c.args.descending c.args.rest.now c.in-Some.field-0.text.items c.in-Some.field-0.used c.in-Some-2.value (bytes_all c.args.rest.now c.type_inv.rest) (made.0 ∙ ap cell.String c.as_slice.ensures.value) made.1 taken

pub returns : goal.returns
returns c =
    let P : Option Unescaped → Type 0 = λ found. FindsText (directed_bytes c.args.descending c.args.rest.now) found in
    let taken = subst P c.in-Some.is c.in_ok-text.ensures in
    let Q : Option AnyValue → Type 0 = λ found. MatchOption found (¬ IsUtf8 c.as_slice.result.now) (λ value. (value ≡ cell.String c.as_slice.result.now) × InRange value) in
    let none = subst Q c.in-None.is c.in_ok-value.ensures in
    string_other c.args.descending c.args.rest.now c.in-Some.field-0.text.items c.in-Some.field-0.used taken (subst (λ bytes. IsUtf8 bytes → ⊥) c.as_slice.ensures.value none)
