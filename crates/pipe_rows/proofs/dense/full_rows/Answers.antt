use Rattle.std.proofs.Common.{rules, ◌≡◌, ◌∙◌, length, ap, sym}
use Rattle.std.specs.Prelude.{replicate, false}
use Rattle.pipe_rows.specs.Encoded.{marked_rows}
use Rattle.pipe_rows.specs.EvenRows.{even_rows}
use Rattle.pipe_rows.proofs.DenseLemmas.{unmarked_all}
use Rattle.pipe_rows.proofs.EvenLemmas.{length-even_rows}
use Rattle.pipe_rows.proofs.dense.full_rows.Goals as goal

pub of_parts-requires : goal.of_parts-requires
of_parts-requires c =
    let rows : c.of_even-rows.result ≡ even_rows c.args.width c.args.height c.args.bytes.items = c.of_even-rows.ensures ∙ c.of_parts-even.ensures.rows in
    let long : length c.in_ok-marks.marks.items ≡ c.args.height = search rules in
    long ∙ sym (ap length rows ∙ length-even_rows c.args.width c.args.height c.args.bytes.items)

pub returns : goal.returns
returns c =
    let rows : c.of_even-rows.result ≡ even_rows c.args.width c.args.height c.args.bytes.items = c.of_even-rows.ensures ∙ c.of_parts-even.ensures.rows in
    let marks : c.in_ok-marks.marks.items ≡ replicate c.args.height false = search rules in
    c.of_parts.ensures ∙ ap (λ l. marked_rows l c.in_ok-marks.marks.items) rows ∙ unmarked_all (even_rows c.args.width c.args.height c.args.bytes.items) c.in_ok-marks.marks.items c.args.height (length-even_rows c.args.width c.args.height c.args.bytes.items) marks
