use Rattle.std.proofs.Common.{rules, ◌≡◌, ◌+◌, ◌<◌, length, get_or, refl, ap, ◌∙◌, arith}
use Rattle.std.specs.Prelude.{◌||◌, false}
use Rattle.pipe_column.specs.Series.{cell_at}
use Rattle.pipe_schema.specs.Cell.{is_null_cell}
use Rattle.pipe_rows.specs.Encodings.{cell_bytes_at, null_at_place}
use Rattle.pipe_rows.proofs.FillingLemmas.{stored_more}
use Rattle.pipe_rows.proofs.encode.measure_column.Goals as goal

pub loop-i-preserved : goal.loop-i-preserved
loop-i-preserved g c =
    let i = c.loop-i.i in
    let cells : g.C.KeyColumn.cells_of c.of-column.result.now ≡ c.args.series.now.cells = c.of-column.ensures in
    let read : c.in_ok-cell_width.field-0 ≡ length (cell_bytes_at c.args.encoding c.args.series.now.cells c.loop-i.i) = c.in_ok-cell_width.ensures ∙ ap (λ l. length (cell_bytes_at c.args.encoding l c.loop-i.i)) cells in
    let width : c.in-Some.width ≡ get_or c.loop-i.widths c.loop-i.i 0 + length (cell_bytes_at c.args.encoding c.args.series.now.cells c.loop-i.i) = c.in-Some.ensures.1 ∙ ap (λ n. get_or c.loop-i.widths c.loop-i.i 0 + n) read in
    let mark : c.either.result ≡ get_or c.loop-i.marks c.loop-i.i false || null_at_place c.args.series.now.cells c.loop-i.i = c.either.ensures ∙ ap (λ b. get_or c.loop-i.marks c.loop-i.i false || b) (c.is_null.ensures ∙ ap (λ l. is_null_cell (cell_at l c.loop-i.i)) cells) in
    let inside : c.loop-i.i < length c.args.widths.now = search rules in
    let within : c.loop-i.i < length c.args.marks.now = omega (arith, inside, c.requires.widths, c.requires.marks) in
    record {
      widths = stored_more 0 i (λ k width. width + length (cell_bytes_at c.args.encoding c.args.series.now.cells k)) c.loop-i.widths c.args.widths.now _ c.in-Some.width c.loop-i.invariant.widths inside width refl;
      marks = stored_more false i (λ k mark. mark || null_at_place c.args.series.now.cells k) c.loop-i.marks c.args.marks.now _ c.either.result c.loop-i.invariant.marks within mark refl;
    }
