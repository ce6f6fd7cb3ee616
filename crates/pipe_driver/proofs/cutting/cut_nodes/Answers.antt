use Rattle.std.proofs.Common.{length, map, ◌∙◌}
use Rattle.pipe_plan.specs.Node.{node_of}
use Rattle.pipe_driver.proofs.Visits.{start-room, whole-taken}
use Rattle.pipe_driver.proofs.cutting.cut_nodes.Goals as goal

pub visit-requires-clause-room : goal.visit-requires-clause-room
visit-requires-clause-room c = start-room c.in_ok-cutter.cutter c.args.nodes.now c.args.root c.in_ok-cutter.ensures c.requires.down c.requires.few

pub returns : goal.returns
returns c =
    c.into_branches.ensures
    ∙ whole-taken c.in_ok-cutter.cutter c.visit.new.cutter (map node_of c.args.nodes.now) (length c.args.nodes.now) c.args.root c.in_ok-cutter.ensures c.in_ok-visit.ensures
