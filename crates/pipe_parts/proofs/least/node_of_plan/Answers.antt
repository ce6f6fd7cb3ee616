use Rattle.std.proofs.Common.{ap, ◌∙◌}
use Rattle.pipe_parts.proofs.Steps.{in-bounds, node-read}
use Rattle.pipe_parts.proofs.least.node_of_plan.Goals as goal

pub bounds-as_slice-n : goal.bounds-as_slice-n
bounds-as_slice-n c = in-bounds c.args.plan.now.arena c.args.plan.now.root c.args.n c.as_slice.result.now c.requires.good c.requires.under (c.as_slice.ensures ∙ ap (λ a. a.nodes) c.arena.ensures.arena)

pub returns : goal.returns
returns c =
    let same = c.as_slice.ensures ∙ ap (λ a. a.nodes) c.arena.ensures.arena in
    let below = in-bounds c.args.plan.now.arena c.args.plan.now.root c.args.n c.as_slice.result.now c.requires.good c.requires.under same in
    node-read c.args.plan.now.arena c.args.n c.as_slice.result.now c.index-as_slice-n.result same below c.index-as_slice-n.is
