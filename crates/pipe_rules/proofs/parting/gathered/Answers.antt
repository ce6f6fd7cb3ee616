use Rattle.std.proofs.Common.{rules, ◌≡◌, ◌∷◌}
use Rattle.pipe_rules.specs.Placements.{placing_of}
use Rattle.pipe_rules.proofs.Placed.{rest-next}
use Rattle.pipe_rules.specs.Values.{placed_in}
use Rattle.pipe_rules.proofs.Seen.{next-parted}
use Rattle.pipe_rules.proofs.parting.gathered.Goals as goal

pub loop-placement-preserved : goal.loop-placement-preserved
loop-placement-preserved c =
    let step : c.loop-placement.placement-iterator.rest.items ≡ c.in-Some.placement ∷ c.next.new.self.rest.items = search rules in (
      next-parted placing_of c.loop-placement.yielded c.in-Some.placement (placed_in c.loop-placement.parted) (placed_in c.push_placed.new.parted) c.loop-placement.invariant.0 c.in_ok-push_placed.ensures,
      rest-next c.loop-placement.yielded c.next.new.self.rest.items c.loop-placement.placement-iterator.rest.items c.into_iter-placement-iterator.result.rest.items c.in-Some.placement c.loop-placement.invariant.1 step,
    )
