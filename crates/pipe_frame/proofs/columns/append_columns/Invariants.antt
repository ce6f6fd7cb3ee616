use Rattle.std.proofs.Common.{◌≡◌}
use Rattle.pipe_column.specs.Columns.{stacked_front}
use Rattle.pipe_frame.proofs.columns.append_columns.Given as goal

abbrev pub invariant-loop-i : goal.invariant-loop-i
invariant-loop-i l = l.columns ≡ stacked_front l.i l.fn.columns l.others
