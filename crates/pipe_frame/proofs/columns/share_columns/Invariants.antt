use Rattle.std.proofs.Common.{◌≡◌}
use Rattle.pipe_frame.proofs.columns.share_columns.Given as goal

abbrev pub invariant-loop-i : goal.invariant-loop-i
invariant-loop-i l = l.columns ≡ l.fn.columns
