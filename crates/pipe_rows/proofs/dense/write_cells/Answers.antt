use Rattle.std.proofs.Common.{rules, ◌≡◌, ◌+◌, ◌*◌, ◌<◌, ◌∙◌, length, ap, arith}
use Rattle.std.specs.Prelude.{Some}
use Rattle.pipe_schema.specs.Sizes.{width_of}
use Rattle.pipe_rows.proofs.DenseLemmas.{part_written, written_none, written_more}
use Rattle.pipe_rows.proofs.NativeLemmas.{encoded_width}
use Rattle.pipe_rows.proofs.dense.write_cells.Goals as goal

pub loop-i-init : goal.loop-i-init
loop-i-init g c = written_none g.T.Native.cell c.args.encoding (1 + width_of g.T.Native.dtype_of) c.args.width c.args.offset c.args.values.now c.args.bytes.now

pub loop-i-preserved : goal.loop-i-preserved
loop-i-preserved g c =
    let x = c.index-values-i.result in
    let e = c.args.encoding in
    let lt : c.loop-i.i < length c.args.values.now = search rules in
    let sized : length c.write_cell.new.cell ≡ 1 + width_of g.T.Native.dtype_of = ap length c.write_cell.ensures.bytes ∙ encoded_width e (g.T.Native.cell (Some x)) g.T.Native.dtype_of (g.met.T.Native.fixed x) (g.met.T.Native.typed x) in
    written_more g.T.Native.cell e (1 + width_of g.T.Native.dtype_of) c.args.width c.args.offset c.args.values.now c.loop-i.i x c.args.bytes.now c.loop-i.bytes _ c.write_cell.new.cell
    c.loop-i.invariant lt c.index-values-i.is c.requires.room c.requires.fits sized c.write_cell.ensures.bytes c.write_cell.ensures.range
    (part_written c.loop-i.bytes c.write_cell.new.cell (c.loop-i.i * c.args.width + c.args.offset) _ (omega (arith, sized)))
