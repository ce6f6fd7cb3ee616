use Rattle.std.proofs.Common.{rules, ◌≡◌, ◌∷◌}
use Rattle.pipe_optimize.specs.Sides.{has_existing}
use Rattle.pipe_optimize.proofs.Steps.{filtered-next, rest-next}
use Rattle.pipe_optimize.proofs.narrowing.kept_pairs.Goals as goal

pub loop-pair-preserved : goal.loop-pair-preserved
loop-pair-preserved c =
    let step : c.loop-pair.pair-iterator.rest.items ≡ c.in-Some.pair ∷ c.next.new.self.rest.items = search rules in (
      filtered-next (has_existing c.args.names.now) c.loop-pair.yielded c.in-Some.pair c.loop-pair.kept c.push_existing.new.kept c.loop-pair.invariant.0 c.in_ok-push_existing.ensures,
      rest-next c.loop-pair.yielded c.next.new.self.rest.items c.loop-pair.pair-iterator.rest.items c.into_iter-pair-iterator.result.rest.items c.in-Some.pair c.loop-pair.invariant.1 step,
    )
