use Rattle.pipe_events.proofs.FitLemmas.{values-fit}
use Rattle.pipe_events.proofs.fitting.native_fits.Goals as goal

pub returns : goal.returns
returns g c =
    values-fit g.T.Native.dtype_of g.T.Native.cell g.met.T.Native.missing g.met.T.Native.typed c.args.column.now c.as_column.result (λ column. column.now) c.requires c.as_column.ensures.typed c.as_column.ensures.cells
