use Rattle.std.proofs.Common.{rules, ◌≡◌, ◌∷◌, map, refl, ap}
use Rattle.pipe_expr.specs.Formula.{formula_of}
use Rattle.pipe_rules.proofs.Placed.{rest-next}
use Rattle.pipe_rules.proofs.Reaches.{lists-next}
use Rattle.pipe_rules.proofs.batch.listed.Goals as goal

pub loop-chunk-init : goal.loop-chunk-init
loop-chunk-init c = (ap (map formula_of) c.new-list.ensures, refl)

pub loop-chunk-preserved : goal.loop-chunk-preserved
loop-chunk-preserved c =
    let step : c.loop-chunk.chunk-iterator.rest.items ≡ c.in-Some.chunk ∷ c.next.new.self.rest.items = search rules in (
      lists-next c.loop-chunk.yielded c.in-Some.chunk (map formula_of c.loop-chunk.list) (map formula_of c.push_chunk.new.list) c.loop-chunk.invariant.0 c.in_ok-push_chunk.ensures,
      rest-next c.loop-chunk.yielded c.next.new.self.rest.items c.loop-chunk.chunk-iterator.rest.items c.into_iter-chunk-iterator.result.rest.items c.in-Some.chunk c.loop-chunk.invariant.1 step,
    )
