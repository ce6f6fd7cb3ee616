use Rattle.std.proofs.Common.{◌≡◌, map, length, refl, ap, ◌∙◌, arith}
use Rattle.std.proofs.lemmas.List.{length-map}
use Rattle.pipe_plan.specs.Node.{node_of}
use Rattle.pipe_plan.specs.Plan.{plan_of}
use Rattle.pipe_plan.specs.Under.{node_at, is_under}
use Rattle.pipe_convert.proofs.Granted.{granted}
use Rattle.pipe_convert.proofs.nodes.marked_nodes.Goals as goal

pub nodes_under-requires : goal.nodes_under-requires
nodes_under-requires c =
    let checked = c.args.plan.now in
    let plan = plan_of checked.arena in
    let g = granted plan checked.root checked.root (node_at plan.nodes checked.root) c.root-root.ensures.good c.root-root.ensures.under refl in
    rw (c.as_slice.ensures, c.arena.ensures.arena, c.root-root.ensures.root) (omega (arith, length-map checked.arena.nodes node_of, g.there))

pub returns : goal.returns
returns c =
    let checked = c.args.plan.now in
    let plan = plan_of checked.arena in
    let nodes : c.as_slice.result.now ≡ checked.arena.nodes = c.as_slice.ensures ∙ ap (λ a. a.nodes) c.arena.ensures.arena in
    record {
      under = λ n. c.in_ok-marks.ensures.under n ∙ ap (λ xs. is_under (map node_of xs) c.root-root.result n) nodes ∙ ap (λ r. is_under plan.nodes r n) c.root-root.ensures.root;
      sized = omega (arith, c.in_ok-marks.ensures.sized, ap length nodes, length-map checked.arena.nodes node_of);
    }
