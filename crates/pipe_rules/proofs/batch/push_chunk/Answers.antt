use Rattle.std.proofs.Common.{rules, ◌≡◌, ◌∷◌, map, refl, sym, append-nil}
use Rattle.pipe_expr.specs.Formula.{formula_of}
use Rattle.pipe_rules.proofs.Placed.{rest-next}
use Rattle.pipe_rules.proofs.Reaches.{list-next}
use Rattle.pipe_rules.proofs.batch.push_chunk.Goals as goal

pub loop-one-init : goal.loop-one-init
loop-one-init c = (sym (append-nil (map formula_of c.args.list.now)), refl)

pub loop-one-preserved : goal.loop-one-preserved
loop-one-preserved c =
    let step : c.loop-one.one-iterator.rest.items ≡ c.in-Some.one ∷ c.next.new.self.rest.items = search rules in (
      list-next c.loop-one.yielded c.in-Some.one (map formula_of c.args.list.now) c.loop-one.list c.push.new.self c.loop-one.invariant.0 c.in_ok-push.ensures.ok,
      rest-next c.loop-one.yielded c.next.new.self.rest.items c.loop-one.one-iterator.rest.items c.into_iter-one-iterator.result.rest.items c.in-Some.one c.loop-one.invariant.1 step,
    )
