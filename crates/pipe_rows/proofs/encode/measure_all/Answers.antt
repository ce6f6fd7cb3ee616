use Rattle.std.proofs.Common.{rules, ◌+◌, ◌<◌, length, get_or, drop, arith}
use Rattle.std.specs.Prelude.{false}
use Rattle.pipe_column.specs.Columns.{row_at}
use Rattle.pipe_column.specs.Series.{Cells}
use Rattle.pipe_rows.specs.Encodings.{cell_bytes_at, encoded_bytes, null_at_place}
use Rattle.pipe_rows.specs.Equality.{has_null_cell}
use Rattle.pipe_rows.specs.declared.encoding.Encoding.{Encoding}
use Rattle.pipe_rows.specs.declared.encoding.Encoding.TheVariants as encoding
use Rattle.pipe_rows.proofs.EncodingLemmas.{bytes_left_over, nulls_left_over, width_further, mark_further}
use Rattle.pipe_rows.proofs.encode.measure_all.Goals as goal

pub loop-k-preserved : goal.loop-k-preserved
loop-k-preserved c =
    let k = c.loop-k.k in
    let columns = c.args.columns.now in
    let encodings = c.args.encodings.now in
    let column : Cells = c.index-columns-k.result in
    let e : Encoding = get_or c.args.encodings.now c.loop-k.k encoding.Equality in
    let below : c.loop-k.k < length c.args.columns.now = search rules in
    let within : c.loop-k.k < length c.args.encodings.now = omega (arith, below, c.requires.encodings) in
    record {
      wide = search rules;
      long = search rules;
      widths = λ i lt.
          let inside : i < length c.loop-k.widths = omega (arith, lt, c.measure.ensures.wide) in
          width_further (get_or c.loop-k.widths i 0) (get_or c.measure.new.widths i 0) _ (cell_bytes_at e column.cells i) (encoded_bytes (drop (k + 1) encodings) (row_at (drop (k + 1) columns) i)) (encoded_bytes (drop k encodings) (row_at (drop k columns) i))
          (bytes_left_over encodings columns k encoding.Equality column i within below c.index-columns-k.is) (c.in_ok-measure.ensures.widths i inside) (c.loop-k.invariant.widths i inside);
      marks = λ i lt.
          let inside : i < length c.loop-k.marks = omega (arith, lt, c.measure.ensures.long) in
          mark_further (get_or c.loop-k.marks i false) (get_or c.measure.new.marks i false) _ (null_at_place column.cells i) (has_null_cell (row_at (drop (k + 1) columns) i)) (has_null_cell (row_at (drop k columns) i))
          (nulls_left_over columns k column i below c.index-columns-k.is) (c.in_ok-measure.ensures.marks i inside) (c.loop-k.invariant.marks i inside);
    }
