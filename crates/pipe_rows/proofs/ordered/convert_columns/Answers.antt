use Rattle.std.proofs.Common.{◌≡◌, map, ap, ◌∙◌}
use Rattle.pipe_column.specs.Columns.{column_rows, height_of}
use Rattle.pipe_rows.specs.Encodings.{encoded_row}
use Rattle.pipe_rows.specs.declared.encoding.Encoding.TheVariants as encoding
use Rattle.pipe_rows.proofs.EncodingLemmas.{rows_for_order, IfOk-along}
use Rattle.pipe_rows.proofs.ordered.convert_columns.Goals as goal

pub returns-clause-rows : goal.returns-clause-rows
returns-clause-rows c =
    let encodings : c.as_slice.result.now ≡ map encoding.Ordered c.args.fields.now = c.as_slice.ensures.value ∙ c.in_ok-encodings.ensures in
    IfOk-along c.encode.result (ap (λ es. map (encoded_row es) (column_rows c.args.columns.now (height_of c.args.columns.now))) encodings ∙ rows_for_order c.args.fields.now c.args.columns.now (height_of c.args.columns.now)) c.encode.ensures.rows
