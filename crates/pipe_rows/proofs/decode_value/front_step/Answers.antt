use Rattle.std.proofs.Common.{◌≡◌, ◌∷◌, ap, ◌∙◌, subst}
use Rattle.pipe_rows.specs.Ordered.{directed_bytes}
use Rattle.pipe_rows.specs.Decoding.{IsEnded}
use Rattle.pipe_rows.proofs.DecodingLemmas.{directed_bytes-cons, ended_not_other}
use Rattle.pipe_rows.proofs.decode_value.front_step.Goals as goal

pub returns-else-next : goal.returns-else-next
returns-else-next c = λ h.
    let d = c.args.descending in
    let first = c.in-Some.first.now in
    let second = c.in-Some-split_first.second.now in
    let more = c.in-Some-split_first.field-0-1.now in
    let next = c.directed-next.result in
    let zero : c.directed-byte.result ≡ 0 = c.if-byte-ne0.false in
    let all : directed_bytes d c.args.tail.now ≡ 0 ∷ next ∷ directed_bytes d more =
    ap (directed_bytes d) (c.in-Some.ensures.cases.0 ∙ ap (λ l. first ∷ l) c.in-Some-split_first.ensures.cases.0)
    ∙ directed_bytes-cons d first (second ∷ more) c.directed-byte.result c.directed-byte.ensures
    ∙ ap (λ l. c.directed-byte.result ∷ l) (directed_bytes-cons d second more next c.directed-next.ensures)
    ∙ ap (λ x. x ∷ next ∷ directed_bytes d more) zero in
    ended_not_other next (directed_bytes d more) c.if-next-eq0.false c.if-next.false (subst IsEnded all h)
