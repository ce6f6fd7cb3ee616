use Rattle.std.proofs.Common.{map, ap, ◌∙◌, length, arith}
use Rattle.std.proofs.lemmas.List.{length-map}
use Rattle.pipe_plan.specs.Node.{node_of}
use Rattle.pipe_plan.specs.Plan.{plan_of}
use Rattle.pipe_driver.specs.Climbing.{goes_down}
use Rattle.pipe_driver.proofs.Sound.{sound-down}
use Rattle.pipe_driver.proofs.plans.cut_arena.Goals as goal

pub cut_nodes-requires-clause-down : goal.cut_nodes-requires-clause-down
cut_nodes-requires-clause-down c =
    ap (λ nodes. goes_down (map node_of nodes) c.args.root) c.as_slice.ensures ∙ sound-down (plan_of c.args.arena.now) c.args.root c.requires

pub cut_nodes-requires-clause-few : goal.cut_nodes-requires-clause-few
cut_nodes-requires-clause-few c =
    let few = c.requires.few in
    let same = ap length c.as_slice.ensures in
    let sized = length-map c.args.arena.now.nodes node_of in
    omega arith
