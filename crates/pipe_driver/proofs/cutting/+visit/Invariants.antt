use Rattle.std.proofs.Common.{◌≡◌, ℕ, ◌+◌, ◌*◌, ◌<◌, true, drop}
use Rattle.std.specs.List.{list_all, flat_map}
use Rattle.std.specs.Prelude.{map}
use Rattle.pipe_plan.specs.Node.{node_of}
use Rattle.pipe_driver.specs.Branches.{paths_of}
use Rattle.pipe_driver.specs.Climbing.{HasRoom, take_paths, is_down}
use Rattle.pipe_driver.proofs.cutting.+visit.Given as goal

abbrev pub decreases-visit : goal.decreases-visit
decreases-visit l = 4 * l.n + 3

abbrev pub decreases-visit_below : goal.decreases-visit_below
decreases-visit_below l = 4 * l.input + 4

abbrev pub decreases-visit_join : goal.decreases-visit_join
decreases-visit_join l = 4 * l.n + 2

abbrev pub decreases-visit_union : goal.decreases-visit_union
decreases-visit_union l = 4 * l.n + 2

abbrev pub decreases-visit_inputs : goal.decreases-visit_inputs
decreases-visit_inputs l = 4 * l.n + 1

abbrev pub invariant-visit_inputs-loop-input : goal.invariant-visit_inputs-loop-input
invariant-visit_inputs-loop-input l = record {
  rest : take_paths l.cutter (flat_map (paths_of (map node_of l.nodes)) (drop l.input-index l.inputs)) ≡ take_paths l.initial.cutter (flat_map (paths_of (map node_of l.nodes)) l.inputs);
  room : (i : ℕ) → i < l.n → HasRoom l.cutter i;
  down : list_all (is_down (map node_of l.nodes) l.n) (drop l.input-index l.inputs) ≡ true;
}
