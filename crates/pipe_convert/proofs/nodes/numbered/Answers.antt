use Rattle.std.proofs.Common.{◌<◌, length, refl, sym, arith}
use Rattle.std.proofs.lemmas.List.{length-map}
use Rattle.pipe_plan.specs.Node.{node_of}
use Rattle.pipe_plan.specs.Plan.{plan_of}
use Rattle.pipe_plan.specs.Under.{node_at}
use Rattle.pipe_check.proofs.Nodes.{node-there}
use Rattle.pipe_convert.proofs.Granted.{granted}
use Rattle.pipe_convert.proofs.nodes.numbered.Goals as goal

pub bounds-as_slice-n : goal.bounds-as_slice-n
bounds-as_slice-n c =
    let checked = c.args.plan.now in
    let plan = plan_of checked.arena in
    let g = granted plan checked.root c.args.n (node_at plan.nodes c.args.n) c.known_well_formed.ensures c.requires refl in
    rw (c.as_slice.ensures, c.arena.ensures.arena) (omega (arith, length-map checked.arena.nodes node_of, g.there))

pub returns : goal.returns
returns c =
    let checked = c.args.plan.now in
    let plan = plan_of checked.arena in
    let n = c.args.n in
    let g = granted plan checked.root n (node_at plan.nodes n) c.known_well_formed.ensures c.requires refl in
    let there : n < length checked.arena.nodes = omega (arith, length-map checked.arena.nodes node_of, g.there) in
    sym (node-there checked.arena.nodes n c.index-as_slice-n.result there (rw (c.as_slice.ensures, c.arena.ensures.arena) at c.index-as_slice-n.is))
