use Rattle.std.proofs.Common.{rules, ◌≡◌, length, map, ap, ◌∙◌}
use Rattle.std.specs.Prelude.{replicate}
use Rattle.pipe_column.specs.Columns.{column_rows, height_of}
use Rattle.pipe_rows.specs.Encodings.{encoded_row}
use Rattle.pipe_rows.specs.declared.encoding.Encoding.TheVariants as encoding
use Rattle.pipe_rows.proofs.EncodingLemmas.{rows_for_equality, IfOk-along}
use Rattle.pipe_rows.proofs.equality.convert_columns_no_order.Goals as goal

pub returns-clause-rows : goal.returns-clause-rows
returns-clause-rows c =
    let encodings : c.as_slice.result.now ≡ replicate (length c.args.columns.now) encoding.Equality = search rules in
    IfOk-along c.encode.result (ap (λ es. map (encoded_row es) (column_rows c.args.columns.now (height_of c.args.columns.now))) encodings ∙ rows_for_equality c.args.columns.now (height_of c.args.columns.now)) c.encode.ensures.rows
