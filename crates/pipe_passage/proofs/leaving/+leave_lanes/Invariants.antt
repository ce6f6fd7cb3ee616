use Rattle.std.proofs.Common.{length}
use Rattle.pipe_passage.proofs.leaving.+leave_lanes.Given as goal

abbrev pub decreases-leave_lanes : goal.decreases-leave_lanes
decreases-leave_lanes g l = length l.lanes.now.items
