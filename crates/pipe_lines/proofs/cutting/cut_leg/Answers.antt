use Rattle.std.proofs.Common.{refl}
use Rattle.pipe_lines.proofs.cutting.cut_leg.Goals as goal

pub returns-clause-leg : goal.returns-clause-leg
returns-clause-leg g c = record {
  through = c.in_ok-through.ensures.items_if_clones_equal (λ x y e. e);
  at = c.place_of-at.ensures;
  count = refl;
  part_at = c.place_of-at.ensures;
  stages = c.in_ok-stages.ensures.stages;
  target = refl;
  given = c.last_node.ensures;
  scans = refl;
}
