use Rattle.std.proofs.Common.{rules, ◌≡◌, ℕ, ◌<◌, List, map, length, get_or, ap, sym, ◌∙◌}
use Rattle.pipe_column.specs.Columns.{row_at, column_rows, height_of}
use Rattle.pipe_rows.specs.Encodings.{encoded_bytes, encoded_row, row_bytes_at}
use Rattle.pipe_rows.specs.Filling.{unwritten}
use Rattle.pipe_rows.proofs.FillingLemmas.{last_count, rows_made}
use Rattle.pipe_rows.proofs.encode.encode_each.Goals as goal

pub returns-clause-rows : goal.returns-clause-rows
returns-clause-rows c =
    let n : ℕ = c.len-height.result in
    let bytes = row_bytes_at c.args.encodings.now c.args.columns.now in
    let widths : List ℕ = c.as_slice.result.now in
    let marks = c.in_ok-widths.marks.items in
    let high : c.len-height.result ≡ height_of c.args.columns.now = search rules in
    let long : length c.as_slice.result.now ≡ c.len-height.result = ap length c.as_slice.ensures.value ∙ c.in_ok-widths.ensures.wide in
    let wide : (i : ℕ) → i < c.len-height.result → get_or c.as_slice.result.now i 0 ≡ length (row_bytes_at c.args.encodings.now c.args.columns.now i) = λ i lt. ap (λ l. get_or l i 0) c.as_slice.ensures.value ∙ c.in_ok-widths.ensures.widths i lt in
    let first : c.in_ok-filler.filler ≡ map unwritten c.as_slice.result.now = c.in_ok-filler.ensures in
    let count = last_count n widths c.in_ok-filler.filler bytes long wide first c.fill_all.new.filler c.fill_all.ensures.count c.fill_all.ensures.rows in
    c.finish.ensures
    ∙ rows_made n widths c.in_ok-filler.filler bytes long wide first c.fill_all.new.filler c.fill_all.ensures.count c.fill_all.ensures.rows
    c.args.columns.now (encoded_row c.args.encodings.now) marks (λ i lt. ap (λ b. record { bytes = encoded_bytes c.args.encodings.now (row_at c.args.columns.now i); has_null = b }) (sym (c.in_ok-widths.ensures.marks i lt))) (c.in_ok-widths.ensures.long ∙ sym count)
    ∙ ap (λ h. map (encoded_row c.args.encodings.now) (column_rows c.args.columns.now h)) high
