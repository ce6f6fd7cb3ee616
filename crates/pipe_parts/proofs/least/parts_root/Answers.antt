use Rattle.std.proofs.Common.{◌≡◌, ap, sym, ◌∙◌}
use Rattle.pipe_plan.specs.Node.{node_of}
use Rattle.pipe_plan.specs.Node as node
use Rattle.pipe_plan.specs.Plan.{plan_of}
use Rattle.pipe_plan.specs.Under.{node_at}
use Rattle.pipe_parts.proofs.Own.{fed}
use Rattle.pipe_parts.proofs.least.parts_root.Goals as goal

pub returns-in-Sort-clause-under : goal.returns-in-Sort-clause-under
returns-in-Sort-clause-under c =
    let plan = plan_of c.args.plan.now.arena in
    let root = c.args.plan.now.root in
    let at : node_at plan.nodes root ≡ node.Sort c.in-Sort.input c.in-Sort.by c.in-Sort.options = ap (node_at plan.nodes) (sym c.root.ensures.root) ∙ sym c.node_of_plan.ensures ∙ ap node_of c.in-Sort.is in
    (fed plan root c.root.ensures.good root c.root.ensures.under (node.Sort c.in-Sort.input c.in-Sort.by c.in-Sort.options) at).0.1
