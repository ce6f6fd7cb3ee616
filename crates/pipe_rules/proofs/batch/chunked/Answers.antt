use Rattle.std.proofs.Common.{rules, ◌≡◌, ◌∷◌, [], refl, sym, ◌∙◌}
use Rattle.pipe_expr.specs.Formula.{formula_of}
use Rattle.pipe_rules.proofs.Placed.{rest-next, all-taken}
use Rattle.pipe_rules.specs.declared.batch.Reaching.{Reaching}
use Rattle.pipe_rules.proofs.Reaches.{has-reach, no-items, gone-none, gone-next, gone-end}
use Rattle.pipe_rules.proofs.batch.chunked.Goals as goal

pub loop-conjunct-init : goal.loop-conjunct-init
loop-conjunct-init c = (gone-none c.args.schema.now c.args.chunks c.args.loose, refl)

pub loop-conjunct-preserved : goal.loop-conjunct-preserved
loop-conjunct-preserved c =
    let fields = c.args.schema.now in
    let x = c.in-Some.conjunct in
    let one : Reaching = record { conjunct = x; reach = c.reach-reach.result } in
    let step : c.loop-conjunct.conjunct-iterator.rest.items ≡ x ∷ c.next.new.self.rest.items = search rules in (
      gone-next fields c.args.chunks c.args.loose c.loop-conjunct.yielded x one c.loop-conjunct.made c.push_reaching.new.chunks c.loop-conjunct.open c.in_ok-next.next refl
          (has-reach fields (formula_of x) c.reach-reach.result c.reach-reach.ensures) c.loop-conjunct.invariant.0 c.in_ok-next.ensures,
      rest-next c.loop-conjunct.yielded c.next.new.self.rest.items c.loop-conjunct.conjunct-iterator.rest.items c.into_iter-conjunct-iterator.result.rest.items x c.loop-conjunct.invariant.1 step,
    )

pub returns : goal.returns
returns c =
    let items = c.into_iter-conjunct-iterator.result.rest.items in
    let same : items ≡ c.args.behind = search rules in
    let zero_left : c.loop-conjunct.conjunct-iterator.rest.len ≡ 0 = search rules in
    let none : c.loop-conjunct.conjunct-iterator.rest.items ≡ [] = no-items c.loop-conjunct.conjunct-iterator.rest.items (sym c.loop-conjunct.conjunct-iterator.rest.ok.0 ∙ zero_left) in
    let taken : c.loop-conjunct.yielded ≡ c.args.behind = all-taken c.loop-conjunct.yielded c.loop-conjunct.conjunct-iterator.rest.items items c.loop-conjunct.invariant.1 none ∙ same in
    gone-end c.args.schema.now c.args.chunks c.args.loose c.loop-conjunct.yielded c.args.behind c.loop-conjunct.made c.push.new.self c.loop-conjunct.open c.chunk_of.result c.loop-conjunct.invariant.0 taken c.chunk_of.ensures c.in_ok-push.ensures.ok
