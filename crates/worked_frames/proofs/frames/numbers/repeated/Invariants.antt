use Rattle.std.proofs.Common.{◌-◌, ◌≤◌, length}
use Rattle.worked_frames.proofs.frames.numbers.repeated.Given as goal

abbrev pub invariant-loop-value : goal.invariant-loop-value
invariant-loop-value g l = length l.column ≤ l.rows

abbrev pub decreases-loop-value : goal.decreases-loop-value
decreases-loop-value g l = l.rows - length l.column
