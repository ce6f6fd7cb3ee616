use Rattle.std.proofs.Common.{rules, ◌∙◌, ◌≡◌, ◌∷◌, [], false, map, refl, ap, sym, subst}
use Rattle.std.specs.List.{list_any}
use Rattle.pipe_plan.specs.Node.{node_of}
use Rattle.pipe_optimize.specs.Lists.{names_at}
use Rattle.pipe_optimize.specs.Narrow.{AreNarrowed, is_renaming}
use Rattle.pipe_optimize.specs.Put.{needs_in}
use Rattle.pipe_optimize.specs.Sides.{narrow_by}
use Rattle.pipe_optimize.specs.Whole.{needs_over}
use Rattle.pipe_optimize.proofs.Steps.{rest-next, no-items}
use Rattle.pipe_optimize.proofs.Alone.{alone-begun, alone-next, alone-all}
use Rattle.pipe_optimize.proofs.unrenamed.narrow_unrenamed.Goals as goal

pub loop-node-init : goal.loop-node-init
loop-node-init c = record {
  whole = refl;
  narrowed = alone-begun c.args.frames.now (map node_of c.into_iter-node-iterator.result.rest.items) (needs_over c.args.lists.now c.args.needs.now) c.new-made.result c.new-made.ensures;
}

pub loop-node-preserved : goal.loop-node-preserved
loop-node-preserved c =
    let irs = c.into_iter-node-iterator.result.rest.items in
    let before = c.loop-node.node-iterator.rest.items in
    let rest = c.next.new.self.rest.items in
    let x = c.in-Some.node in
    let step : before ≡ x ∷ rest = search rules in record {
      whole = rest-next c.loop-node.yielded rest before irs x c.loop-node.invariant.whole step;
      narrowed = alone-next c.args.frames.now irs (needs_over c.args.lists.now c.args.needs.now) c.loop-node.yielded before rest c.loop-node.made c.push.new.self c.len.result x c.in_ok-narrowed.narrowed c.needed_at-needed.result.now c.loop-node.invariant.whole step c.len.ensures c.loop-node.invariant.narrowed c.needed_at-needed.ensures (c.in_ok-narrowed.ensures ∙ ap (λ q. narrow_by c.args.frames.now (names_at q) c.needed_at-needed.result.now (node_of x)) c.new-none.ensures) c.in_ok-push.ensures.ok;
    }

pub returns : goal.returns
returns c =
    let irs = c.into_iter-node-iterator.result.rest.items in
    let same : irs ≡ c.args.nodes = search rules in
    let zero_left : c.loop-node.node-iterator.rest.len ≡ 0 = search rules in
    let none : c.loop-node.node-iterator.rest.items ≡ [] = no-items c.loop-node.node-iterator.rest.items (sym c.loop-node.node-iterator.rest.ok.0 ∙ zero_left) in
    let plain : list_any is_renaming (map node_of irs) ≡ false = subst (λ q. list_any is_renaming (map node_of q) ≡ false) (sym same) c.requires.unrenamed in
    subst (λ q. AreNarrowed c.args.frames.now (map node_of q) (map node_of c.loop-node.made) (needs_in (needs_over c.args.lists.now c.args.needs.now))) same
    (alone-all c.args.frames.now irs (needs_over c.args.lists.now c.args.needs.now) c.loop-node.yielded c.loop-node.node-iterator.rest.items c.loop-node.made plain c.loop-node.invariant.whole none c.loop-node.invariant.narrowed)
