use Rattle.std.proofs.Common.{◌≡◌, take}
use Rattle.pipe_replay.proofs.sorting.rows_of_frame.Given as goal

abbrev pub invariant-loop-i : goal.invariant-loop-i
invariant-loop-i l = l.rows ≡ take l.i l.frame.rows
