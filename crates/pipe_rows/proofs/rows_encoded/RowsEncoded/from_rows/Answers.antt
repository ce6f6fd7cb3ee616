use Rattle.std.proofs.Common.{rules, ◌≡◌, length, ap, ◌∙◌, arith}
use Rattle.std.specs.Prelude.{replicate, false}
use Rattle.std.proofs.lemmas.List.{take_all}
use Rattle.pipe_rows.specs.Encoded.{marked_rows}
use Rattle.pipe_rows.proofs.EncodedLemmas.{marked_rows-none}
use Rattle.pipe_rows.proofs.rows_encoded.RowsEncoded.from_rows.Goals as goal

pub returns : goal.returns
returns c =
    let marks : c.in_ok-marks.marks.items ≡ replicate (length c.args.rows.now) false = search rules in
    let all : c.of_list.result ≡ c.args.rows.now = c.of_list.ensures ∙ c.loop-row.invariant ∙ take_all c.loop-row.row-index c.args.rows.now (omega arith) in
    c.of_parts.ensures ∙ ap (λ l. marked_rows l c.in_ok-marks.marks.items) all ∙ ap (marked_rows c.args.rows.now) marks ∙ marked_rows-none c.args.rows.now
