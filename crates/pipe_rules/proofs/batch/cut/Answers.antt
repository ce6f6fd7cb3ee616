use Rattle.std.proofs.Common.{rules, ◌≡◌, ◌∷◌, map, refl, sym, subst, append-nil}
use Rattle.std.specs.List.{AllByRecursion}
use Rattle.pipe_expr.specs.Formula.{formula_of}
use Rattle.pipe_rules.proofs.Placed.{rest-next}
use Rattle.pipe_rules.specs.Reach.{IsChunk}
use Rattle.pipe_rules.proofs.Reaches.{near-next, far-next}
use Rattle.pipe_rules.proofs.batch.cut.Goals as goal

pub loop-chunk-init : goal.loop-chunk-init
loop-chunk-init c =
    let same : c.args.chunks ≡ c.into_iter-chunk-iterator.result.rest.items = search rules in (
      c.new-near.ensures,
      sym (append-nil (map formula_of c.args.far.now)),
      subst (AllByRecursion IsChunk) same c.requires,
      refl,
    )

pub cut_chunk-requires : goal.cut_chunk-requires
cut_chunk-requires c =
    let step : c.loop-chunk.chunk-iterator.rest.items ≡ c.in-Some.chunk ∷ c.next.new.self.rest.items = search rules in
    (subst (AllByRecursion IsChunk) step c.loop-chunk.invariant.2).0

pub loop-chunk-preserved : goal.loop-chunk-preserved
loop-chunk-preserved c =
    let step : c.loop-chunk.chunk-iterator.rest.items ≡ c.in-Some.chunk ∷ c.next.new.self.rest.items = search rules in (
      near-next c.args.bound c.loop-chunk.yielded c.in-Some.chunk c.in_ok-part.part c.loop-chunk.near c.push.new.self c.loop-chunk.invariant.0 c.in_ok-part.ensures.near c.in_ok-push.ensures.ok,
      far-next c.args.bound c.loop-chunk.yielded c.in-Some.chunk (map formula_of c.args.far.now) (map formula_of c.loop-chunk.far) (map formula_of c.cut_chunk.new.far) c.loop-chunk.invariant.1 c.in_ok-part.ensures.far,
      (subst (AllByRecursion IsChunk) step c.loop-chunk.invariant.2).1,
      rest-next c.loop-chunk.yielded c.next.new.self.rest.items c.loop-chunk.chunk-iterator.rest.items c.into_iter-chunk-iterator.result.rest.items c.in-Some.chunk c.loop-chunk.invariant.3 step,
    )
