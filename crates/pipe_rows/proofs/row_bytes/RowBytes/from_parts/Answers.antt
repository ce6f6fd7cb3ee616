use Rattle.std.proofs.Common.{rules, ◌≡◌, length, ap, ◌∙◌, arith}
use Rattle.std.specs.Prelude.{true}
use Rattle.pipe_rows.specs.EvenRows.{even_rows, are_steps}
use Rattle.pipe_rows.proofs.EvenLemmas.{steps_pieces, steps_total}
use Rattle.pipe_rows.proofs.row_bytes.RowBytes.from_parts.Goals as goal

pub of_parts-requires : goal.of_parts-requires
of_parts-requires c =
    let steps : are_steps c.unwrap_or-width.result 0 c.args.ends.items ≡ true = search rules in
    let many : c.len.result ≡ length c.args.ends.items = search rules in
    rw many (omega (arith, steps_total c.unwrap_or-width.result 0 (length c.args.bytes.items) c.args.ends.items steps c.requires))

pub returns : goal.returns
returns c =
    let steps : are_steps c.unwrap_or-width.result 0 c.args.ends.items ≡ true = search rules in
    let many : c.len.result ≡ length c.args.ends.items = search rules in
    c.of_parts.ensures.rows
    ∙ ap (λ n. even_rows c.unwrap_or-width.result n c.args.bytes.items) many
    ∙ steps_pieces c.unwrap_or-width.result 0 c.args.bytes.items c.args.ends.items steps
