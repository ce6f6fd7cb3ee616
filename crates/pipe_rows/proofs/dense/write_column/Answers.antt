use Rattle.std.proofs.Common.{◌≡◌, ◌+◌, ◌*◌, ◌≤◌, ◌∙◌, length, ap, sym}
use Rattle.std.specs.Prelude.{true}
use Rattle.pipe_schema.specs.Sizes.{width_of}
use Rattle.pipe_rows.proofs.DenseLemmas.{length-column, extended}
use Rattle.pipe_rows.proofs.dense.write_column.Goals as goal

pub write_cells-requires-clause-fits : goal.write_cells-requires-clause-fits
write_cells-requires-clause-fits g c = rw (← c.requires.typed) c.requires.fits

pub write_cells-requires-clause-room : goal.write_cells-requires-clause-room
write_cells-requires-clause-room g c =
    c.requires.room ∙ ap (λ n. n * c.args.width) (length-column g.T.Native.cell g.T.Native.dtype_of g.met.T.Native.typed g.met.T.Native.fixed c.in-Some-values_without_nulls.values.now c.in-Some.column.now c.args.series.now c.requires.typed c.in-Some.ensures.cells c.in-Some-values_without_nulls.ensures)

pub returns-clause-long : goal.returns-clause-long
returns-clause-long g c = c.write_cells.ensures.long

pub returns-clause-cells : goal.returns-clause-cells
returns-clause-cells g c done =
    extended g.T.Native.cell g.T.Native.dtype_of g.met.T.Native.typed g.met.T.Native.fixed c.in-Some-values_without_nulls.values.now c.in-Some.column.now c.args.series.now c.requires.typed c.in-Some.ensures.cells c.in-Some-values_without_nulls.ensures
    c.args.encoding c.args.width c.args.offset c.args.bytes.now c.write_cells.new.bytes c.write_cells.ensures
