use Rattle.std.proofs.Common.{map, sym, subst}
use Rattle.std.proofs.lemmas.Result.{IfOk-weaker}
use Rattle.pipe_plan.specs.Node.{node_of}
use Rattle.pipe_optimize.specs.Lists.{HasNames}
use Rattle.pipe_optimize.specs.Narrow.{AreNarrowed}
use Rattle.pipe_optimize.specs.Put.{ArePassed, needs_in}
use Rattle.pipe_optimize.specs.Whole.{needs_over, AreOutputs}
use Rattle.pipe_optimize.proofs.Passing.{trimmed-all}
use Rattle.pipe_optimize.proofs.Whole.{outputs-of}
use Rattle.pipe_optimize.proofs.trimming.trim.Goals as goal

pub node_needs-requires-clause-outputs : goal.node_needs-requires-clause-outputs
node_needs-requires-clause-outputs c =
    let frames = c.args.frames.now in
    let nodes = map node_of c.args.nodes in
    let lists = c.in_ok-lists.lists in
    let names = subst (λ q. HasNames frames (map node_of q) lists) c.as_slice.ensures c.in_ok-lists.ensures in
    subst (λ q. AreOutputs lists (map node_of q)) (sym c.as_slice-2.ensures) (outputs-of frames nodes lists c.requires.tree.ordered names)

pub returns : goal.returns
returns c =
    let frames = c.args.frames.now in
    let irs = c.args.nodes in
    let root = c.args.root in
    let lists = c.in_ok-lists.lists in
    let needs = c.in_ok-needs.needs.items in
    let names = subst (λ q. HasNames frames (map node_of q) lists) c.as_slice.ensures c.in_ok-lists.ensures in
    let passed = subst (λ q. ArePassed lists (map node_of q) root 0 (needs_over lists needs)) c.as_slice-2.ensures c.in_ok-needs.ensures in
    IfOk-weaker c.narrow_nodes.result _ _ (λ made h. trimmed-all frames irs made root lists (needs_over lists needs) c.requires.tree c.requires.there names passed
    (subst (λ q. AreNarrowed frames (map node_of irs) (map node_of made) (needs_in (needs_over lists q))) c.as_slice-3.ensures.value h)) c.narrow_nodes.ensures
