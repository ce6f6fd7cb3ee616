use Rattle.std.proofs.Common.{take}
use Rattle.std.specs.Prelude.{All}
use Rattle.pipe_events.specs.Fitting.{ColumnFits}
use Rattle.pipe_events.proofs.fitting.frame_fits.Given as goal

abbrev pub invariant-loop-column : goal.invariant-loop-column
invariant-loop-column l = All ColumnFits (take l.column-index l.columns)
