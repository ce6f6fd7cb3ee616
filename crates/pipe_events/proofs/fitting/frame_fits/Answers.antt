use Rattle.std.proofs.Common.{arith}
use Rattle.pipe_events.specs.Fitting.{ColumnFits}
use Rattle.pipe_events.proofs.FitLemmas.{one-more, frame-fits}
use Rattle.pipe_events.proofs.fitting.frame_fits.Goals as goal

pub loop-column-preserved : goal.loop-column-preserved
loop-column-preserved c =
    one-more ColumnFits c.get_columns-columns.result.now c.loop-column.column-index c.column-item.result c.loop-column-test.true c.column-item.is c.loop-column.invariant c.column_fits.ensures

pub returns : goal.returns
returns c =
    frame-fits c.args.frame.now c.get_columns-columns.result.now c.loop-column.column-index c.get_columns-columns.ensures.columns c.get_columns-columns.ensures.rows (omega (arith, c.loop-column-test.false)) c.loop-column.invariant
