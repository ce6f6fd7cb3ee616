use Rattle.std.proofs.Common.{rules, ◌∙◌, ◌≡◌, ◌∷◌, [], map, refl, sym, subst}
use Rattle.pipe_plan.specs.Node.{node_of}
use Rattle.pipe_optimize.specs.Lists.{names_at, AreOrdered}
use Rattle.pipe_optimize.specs.Narrow.{AreNarrowed}
use Rattle.pipe_optimize.specs.Put.{needs_in}
use Rattle.pipe_optimize.specs.Sides.{output_by}
use Rattle.pipe_optimize.specs.Whole.{needs_over}
use Rattle.pipe_optimize.proofs.Steps.{rest-next, no-items}
use Rattle.pipe_optimize.proofs.Passing.{narrowed-begun, narrowed-taken, narrowed-end}
use Rattle.pipe_optimize.proofs.trimming.narrow_over_names.Goals as goal

pub loop-node-init : goal.loop-node-init
loop-node-init c = record {
  whole = refl;
  narrowed = narrowed-begun c.args.frames.now (map node_of c.into_iter-node-iterator.result.rest.items) (needs_over c.args.lists.now c.args.needs.now) c.new-made.result c.new-left.result c.new-made.ensures c.new-left.ensures;
}

pub loop-node-preserved : goal.loop-node-preserved
loop-node-preserved c =
    let irs = c.into_iter-node-iterator.result.rest.items in
    let before = c.loop-node.node-iterator.rest.items in
    let rest = c.next.new.self.rest.items in
    let x = c.in-Some.node in
    let left = c.loop-node.left in
    let made = output_by c.args.frames.now (names_at left) (node_of c.in_ok-narrowed.narrowed) in
    let same : irs ≡ c.args.nodes = search rules in
    let step : before ≡ x ∷ rest = search rules in record {
      whole = rest-next c.loop-node.yielded rest before irs x c.loop-node.invariant.whole step;
      narrowed = narrowed-taken c.args.frames.now irs (subst (λ q. AreOrdered (map node_of q)) (sym same) c.requires.ordered) (needs_over c.args.lists.now c.args.needs.now) c.loop-node.yielded before rest c.loop-node.made c.push.new.self left left left c.push_names.new.lists c.len.result x c.in_ok-narrowed.narrowed c.needed_at-needed.result.now made c.loop-node.invariant.whole step c.len.ensures c.loop-node.invariant.narrowed c.needed_at-needed.ensures refl c.in_ok-narrowed.ensures refl refl c.in_ok-push.ensures.ok c.in_ok-push_names.ensures;
    }

pub returns : goal.returns
returns c =
    let irs = c.into_iter-node-iterator.result.rest.items in
    let same : irs ≡ c.args.nodes = search rules in
    let zero_left : c.loop-node.node-iterator.rest.len ≡ 0 = search rules in
    let none : c.loop-node.node-iterator.rest.items ≡ [] = no-items c.loop-node.node-iterator.rest.items (sym c.loop-node.node-iterator.rest.ok.0 ∙ zero_left) in
    subst (λ q. AreNarrowed c.args.frames.now (map node_of q) (map node_of c.loop-node.made) (needs_in (needs_over c.args.lists.now c.args.needs.now))) same
    (narrowed-end c.args.frames.now irs (needs_over c.args.lists.now c.args.needs.now) c.loop-node.yielded c.loop-node.node-iterator.rest.items c.loop-node.made c.loop-node.left c.loop-node.invariant.whole none c.loop-node.invariant.narrowed)
