use Rattle.std.proofs.Common.{◌∙◌, false, ap, sym, map, length}
use Rattle.std.proofs.lemmas.List.{length-map}
use Rattle.pipe_plan.specs.Node.{node_of}
use Rattle.pipe_plan.specs.Walk.{walk}
use Rattle.pipe_plan.specs.Under.{reaches_at}
use Rattle.pipe_plain.specs.Tables.{at_place}
use Rattle.pipe_plain.proofs.Walks.{table-tells}
use Rattle.pipe_plain.proofs.under.is_below.Goals as goal

pub returns : goal.returns
returns c =
    let nodes = c.args.nodes.now in
    let reaches = reaches_at (map node_of nodes) c.args.n in
    let table_is = c.as_slice.ensures.value ∙ c.in_ok-marks.ensures in
    let told = c.mark.ensures ∙ ap (λ t. at_place false t c.args.root) table_is ∙ table-tells false reaches (length nodes) c.args.root in
    told ∙ ap (λ k. walk false reaches k c.args.root) (sym (length-map nodes node_of))
