use Rattle.std.proofs.Common.{rules, ◌≡◌, ◌∷◌, [], ◌∙◌, map, ap}
use Rattle.pipe_expr.specs.Formula.{formula_of}
use Rattle.pipe_rules.proofs.Placed.{next-placed, rest-next, all-taken}
use Rattle.pipe_rules.proofs.passage.place_each.Goals as goal

pub loop-conjunct-preserved : goal.loop-conjunct-preserved
loop-conjunct-preserved g c =
    let step : c.loop-conjunct.conjunct-iterator.rest.items ≡ c.in-Some.conjunct ∷ c.next.new.self.rest.items = search rules in (
      next-placed (g.P.Passage.placing c.args.passage.now) c.loop-conjunct.yielded c.in-Some.conjunct c.loop-conjunct.placements c.push.new.self c.in_ok-placement.placement c.loop-conjunct.invariant.0 c.in_ok-placement.ensures c.in_ok-push.ensures.ok,
      rest-next c.loop-conjunct.yielded c.next.new.self.rest.items c.loop-conjunct.conjunct-iterator.rest.items c.into_iter-conjunct-iterator.result.rest.items c.in-Some.conjunct c.loop-conjunct.invariant.1 step,
    )
