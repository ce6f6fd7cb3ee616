use Rattle.std.proofs.Common.{rules, ◌≡◌, ◌∷◌, map, refl, sym, append-nil}
use Rattle.pipe_expr.specs.Formula.{formula_of}
use Rattle.pipe_rules.proofs.Placed.{rest-next}
use Rattle.pipe_rules.proofs.Reaches.{ones-near, ones-far}
use Rattle.pipe_rules.proofs.batch.cut_each.Goals as goal

pub loop-one-init : goal.loop-one-init
loop-one-init c = (c.new-near.ensures, sym (append-nil (map formula_of c.args.far.now)), refl)

pub loop-one-preserved : goal.loop-one-preserved
loop-one-preserved c =
    let step : c.loop-one.one-iterator.rest.items ≡ c.in-Some.one ∷ c.next.new.self.rest.items = search rules in (
      ones-near c.args.bound c.loop-one.yielded c.in-Some.one c.loop-one.near c.cut_one.new.near c.loop-one.invariant.0 c.in_ok-cut_one.ensures.near,
      ones-far c.args.bound c.loop-one.yielded c.in-Some.one (map formula_of c.args.far.now) (map formula_of c.loop-one.far) (map formula_of c.cut_one.new.far) c.loop-one.invariant.1 c.in_ok-cut_one.ensures.far,
      rest-next c.loop-one.yielded c.next.new.self.rest.items c.loop-one.one-iterator.rest.items c.into_iter-one-iterator.result.rest.items c.in-Some.one c.loop-one.invariant.2 step,
    )
