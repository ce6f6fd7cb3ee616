use Rattle.std.proofs.Common.{◌≡◌, length}
use Rattle.worked_lanes.proofs.lanes.harness.shared_of.Given as goal

abbrev pub invariant-loop-stage : goal.invariant-loop-stage
invariant-loop-stage l = length l.shared.items ≡ l._stage-index
