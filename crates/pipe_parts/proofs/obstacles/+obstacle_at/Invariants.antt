use Rattle.std.proofs.Common.{◌≤◌, ◌+◌, ◌*◌, drop, length}
use Rattle.pipe_plan.specs.Plan.{plan_of}
use Rattle.pipe_parts.specs.Obstacles.{AreBarred}
use Rattle.pipe_parts.proofs.Barred.{ArePassed}
use Rattle.pipe_parts.proofs.obstacles.+obstacle_at.Given as goal

abbrev pub decreases-obstacle_at : goal.decreases-obstacle_at
decreases-obstacle_at l = 4 * l.n + 3

abbrev pub decreases-obstacle_among : goal.decreases-obstacle_among
decreases-obstacle_among l = 4 * l.n + 2

abbrev pub decreases-obstacle_on : goal.decreases-obstacle_on
decreases-obstacle_on l = 4 * l.n + 1

abbrev pub invariant-obstacle_on-loop-place : goal.invariant-obstacle_on-loop-place
invariant-obstacle_on-loop-place l = ArePassed (plan_of l.plan.arena) l.inputs l.way l.place

abbrev pub invariant-obstacle_among-loop-place : goal.invariant-obstacle_among-loop-place
invariant-obstacle_among-loop-place l = record {
  within : l.place ≤ length l.ways;
  barred : AreBarred (plan_of l.plan.arena) l.inputs (drop l.place l.ways) l.fn.here l.found;
}

abbrev pub decreases-obstacle_among-loop-place : goal.decreases-obstacle_among-loop-place
decreases-obstacle_among-loop-place l = l.place
