use Rattle.std.proofs.Common.{rules, ◌≡◌, ◌+◌, ◌*◌, ◌<◌, ◌∙◌, length, get_or, refl, ap, sym, arith}
use Rattle.std.specs.Prelude.{true}
use Rattle.pipe_column.specs.Series.{Cells}
use Rattle.pipe_rows.specs.declared.encoding.Encoding.TheVariants as encoding
use Rattle.pipe_rows.proofs.DenseLemmas.{so_far_none, so_far_fits, so_far_more, so_far_all}
use Rattle.pipe_rows.proofs.dense.write_columns.Goals as goal

pub loop-k-init : goal.loop-k-init
loop-k-init c = record { long = refl; so_far = so_far_none c.args.encodings.now c.args.columns.now c.args.height c.args.width c.args.bytes.now c.requires.width }

pub write_dense-written-requires-clause-fits : goal.write_dense-written-requires-clause-fits
write_dense-written-requires-clause-fits c =
    so_far_fits c.args.encodings.now c.args.columns.now c.args.height c.args.width c.loop-k.k c.loop-k.offset c.index-columns-k.result c.loop-k.bytes c.loop-k.invariant.so_far (search rules) c.index-columns-k.is

pub write_dense-written-requires-clause-room : goal.write_dense-written-requires-clause-room
write_dense-written-requires-clause-room c =
    let column : Cells = c.index-columns-k.result in
    let below : c.loop-k.k < length c.args.columns.now = search rules in
    let high : length column.cells ≡ c.args.height = ap (λ (x : Cells). length x.cells) c.index-columns-k.is ∙ c.requires.even c.loop-k.k column below in
    c.loop-k.invariant.long ∙ c.requires.room ∙ ap (λ n. n * c.args.width) (sym high)

pub overflow_add-offset : goal.overflow_add-offset
overflow_add-offset c =
    let fits = so_far_fits c.args.encodings.now c.args.columns.now c.args.height c.args.width c.loop-k.k c.loop-k.offset c.index-columns-k.result c.loop-k.bytes c.loop-k.invariant.so_far (search rules) c.index-columns-k.is in
    omega (arith, fits, c.cell_width-offset.ensures)

pub loop-k-preserved : goal.loop-k-preserved
loop-k-preserved c =
    let column : Cells = c.index-columns-k.result in
    let below : c.loop-k.k < length c.args.columns.now = search rules in
    let within : c.loop-k.k < length c.args.encodings.now = omega (arith, below, c.requires.encodings) in
    let high : length column.cells ≡ c.args.height = ap (λ (x : Cells). length x.cells) c.index-columns-k.is ∙ c.requires.even c.loop-k.k column below in
    record {
      long = c.write_dense-written.ensures.long ∙ c.loop-k.invariant.long;
      so_far =
          rw c.cell_width-offset.ensures (so_far_more c.args.encodings.now c.args.columns.now c.args.height c.args.width c.loop-k.k c.loop-k.offset encoding.Equality column c.loop-k.bytes c.write_dense-written.new.bytes
          c.loop-k.invariant.so_far within below c.index-columns-k.is high (c.write_dense-written.ensures.cells c.if-not-written.false));
    }

pub returns-clause-filled : goal.returns-clause-filled
returns-clause-filled c done = so_far_all c.args.encodings.now c.args.columns.now c.args.height c.args.width c.loop-k.k c.loop-k.offset c.loop-k.bytes c.loop-k.invariant.so_far (omega arith) c.requires.encodings
