use Rattle.std.proofs.Common.{◌≤◌, ◌+◌, ◌*◌, ◌∷◌, [], map, take, drop, length}
use Rattle.std.specs.List.{flat_map}
use Rattle.pipe_plan.specs.Plan.{plan_of}
use Rattle.pipe_parts.specs.Wishes.{alike}
use Rattle.pipe_parts.specs.Choices.{choices_for, choices_of}
use Rattle.pipe_parts.specs.Least.{IsBest, IsBounded}
use Rattle.pipe_parts.specs.Sides.{sides_in}
use Rattle.pipe_parts.proofs.least.+least.Given as goal

abbrev pub decreases-least : goal.decreases-least
decreases-least l = 8 * l.n + 7

abbrev pub decreases-least_below : goal.decreases-least_below
decreases-least_below l = 8 * l.n + 6

abbrev pub decreases-least_sorted : goal.decreases-least_sorted
decreases-least_sorted l = 8 * l.n + 6

abbrev pub decreases-least_all : goal.decreases-least_all
decreases-least_all l = 8 * l.n + 6

abbrev pub decreases-least_join : goal.decreases-least_join
decreases-least_join l = 8 * l.join.n + 6

abbrev pub decreases-least_keyed : goal.decreases-least_keyed
decreases-least_keyed l = 8 * l.join.n + 5

abbrev pub decreases-least_ways : goal.decreases-least_ways
decreases-least_ways l = 8 * l.join.n + 5

abbrev pub decreases-least_pair : goal.decreases-least_pair
decreases-least_pair l = 8 * l.join.n + 4

abbrev pub invariant-least_ways-loop-way : goal.invariant-least_ways-loop-way
invariant-least_ways-loop-way l = record {
  best : (let plan = plan_of l.plan.arena in IsBest plan l.sizes (flat_map (choices_for (choices_of plan) (l.join.left ∷ l.join.right ∷ [])) (map sides_in (take l.way-index l.ways))) l.found);
  bounded : IsBounded l.found;
}

abbrev pub invariant-least_all-loop-place : goal.invariant-least_all-loop-place
invariant-least_all-loop-place l = record {
  within : l.place ≤ length l.inputs;
  best : (let plan = plan_of l.plan.arena in IsBest plan l.sizes (choices_for (choices_of plan) (drop l.place l.inputs) (alike l.wish (drop l.place l.inputs))) l.found);
  bounded : IsBounded l.found;
}

abbrev pub decreases-least_all-loop-place : goal.decreases-least_all-loop-place
decreases-least_all-loop-place l = l.place
