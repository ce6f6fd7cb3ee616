use Rattle.std.proofs.Common.{map, get_or, refl, sym, ap, ◌∙◌, arith}
use Rattle.std.specs.List.{list_all}
use Rattle.pipe_plan.specs.Node.{node_of}
use Rattle.pipe_driver.specs.declared.above.Step.TheVariants as step
use Rattle.pipe_driver.specs.declared.turn.Turn.TheVariants as turn
use Rattle.pipe_driver.specs.Branches.{paths_of, is_scan_at, union_paths}
use Rattle.pipe_driver.specs.Climbing.{take_paths, is_down}
use Rattle.pipe_driver.proofs.Takes.{drop-operator, drop-sort, room-after}
use Rattle.pipe_driver.proofs.Down.{down-below, down-down}
use Rattle.pipe_driver.proofs.Visits.{number-there, turn-there, room-step, room-moved, room-built, node-in, join-taken, inputs-next, down-next, inputs-taken}
use Rattle.pipe_driver.proofs.cutting.+visit.Goals as goal

pub visit-bounds-nodes-n : goal.visit-bounds-nodes-n
visit-bounds-nodes-n t c = number-there c.args.nodes.now c.args.n c.requires.down

pub visit-visit_below-requires : goal.visit-visit_below-requires
visit-visit_below-requires t c =
    let nodes = map node_of c.args.nodes.now in
    let known = turn-there c.args.nodes.now c.args.n c.index-nodes-n.result (turn.Through c.in-Through.input) c.requires.down c.index-nodes-n.is (sym c.in-Through.is ∙ c.turn_at_node.ensures) in
    let lt = down-below nodes c.args.n c.in-Through.input known.down in
    (omega arith, (down-down nodes c.args.n c.in-Through.input known.down, room-step c.args.cutter.now (step.Operator c.args.n) c.args.n c.in-Through.input c.requires.room refl lt))

pub visit-visit_union-requires : goal.visit-visit_union-requires
visit-visit_union-requires t c =
    let nodes = map node_of c.args.nodes.now in
    let known = turn-there c.args.nodes.now c.args.n c.index-nodes-n.result turn.Unite c.requires.down c.index-nodes-n.is (sym c.in-Unite.is ∙ c.turn_at_node.ensures) in
    (omega arith, (c.requires.room, ap (list_all (is_down nodes c.args.n)) c.union_inputs.ensures ∙ known.down))

pub visit-visit_below-requires-in-Sort : goal.visit-visit_below-requires-in-Sort
visit-visit_below-requires-in-Sort t c =
    let nodes = map node_of c.args.nodes.now in
    let known = turn-there c.args.nodes.now c.args.n c.index-nodes-n.result (turn.Sort c.in-Sort.input) c.requires.down c.index-nodes-n.is (sym c.in-Sort.is ∙ c.turn_at_node.ensures) in
    let lt = down-below nodes c.args.n c.in-Sort.input known.down in
    (omega arith, (down-down nodes c.args.n c.in-Sort.input known.down, room-step c.args.cutter.now _ c.args.n c.in-Sort.input c.requires.room (node-in c.args.cutter.now c.args.n c.requires.room) lt))

pub visit-visit_join-requires : goal.visit-visit_join-requires
visit-visit_join-requires t c =
    let known = turn-there c.args.nodes.now c.args.n c.index-nodes-n.result (turn.Join c.in-Join.built c.in-Join.probed) c.requires.down c.index-nodes-n.is (sym c.in-Join.is ∙ c.turn_at_node.ensures) in
    (omega arith, (c.requires.room, (known.down.0, known.down.1)))

pub visit-returns-in_ok-begin-in-Begin : goal.visit-returns-in_ok-begin-in-Begin
visit-returns-in_ok-begin-in-Begin t c =
    let known = turn-there c.args.nodes.now c.args.n c.index-nodes-n.result turn.Begin c.requires.down c.index-nodes-n.is (sym c.in-Begin.is ∙ c.turn_at_node.ensures) in
    c.in_ok-begin-in-Begin.ensures ∙ sym (ap (take_paths c.args.cutter.now) known.paths)

pub visit-returns-in_ok-visit_below-in-Through : goal.visit-returns-in_ok-visit_below-in-Through
visit-returns-in_ok-visit_below-in-Through t c =
    let nodes = map node_of c.args.nodes.now in
    let known = turn-there c.args.nodes.now c.args.n c.index-nodes-n.result (turn.Through c.in-Through.input) c.requires.down c.index-nodes-n.is (sym c.in-Through.is ∙ c.turn_at_node.ensures) in
    c.in_ok-visit_below-in-Through.ensures ∙ drop-operator c.args.n c.args.cutter.now (paths_of nodes c.in-Through.input) ∙ sym (ap (take_paths c.args.cutter.now) known.paths)

pub visit-returns-in_ok-visit_union-in-Unite : goal.visit-returns-in_ok-visit_union-in-Unite
visit-returns-in_ok-visit_union-in-Unite t c =
    let nodes = map node_of c.args.nodes.now in
    let known = turn-there c.args.nodes.now c.args.n c.index-nodes-n.result turn.Unite c.requires.down c.index-nodes-n.is (sym c.in-Unite.is ∙ c.turn_at_node.ensures) in
    c.in_ok-visit_union-in-Unite.ensures
    ∙ ap (λ is. take_paths c.args.cutter.now (union_paths (list_all (is_scan_at nodes) is) c.args.n (paths_of nodes) is)) c.union_inputs.ensures
    ∙ sym (ap (take_paths c.args.cutter.now) known.paths)

pub visit-returns-in_ok-visit_below-in-Sort : goal.visit-returns-in_ok-visit_below-in-Sort
visit-returns-in_ok-visit_below-in-Sort t c =
    let nodes = map node_of c.args.nodes.now in
    let known = turn-there c.args.nodes.now c.args.n c.index-nodes-n.result (turn.Sort c.in-Sort.input) c.requires.down c.index-nodes-n.is (sym c.in-Sort.is ∙ c.turn_at_node.ensures) in
    c.in_ok-visit_below-in-Sort.ensures ∙ drop-sort c.args.n c.args.cutter.now (paths_of nodes c.in-Sort.input) ∙ sym (ap (take_paths c.args.cutter.now) known.paths)

pub visit-returns-in_ok-visit_join-in-Join : goal.visit-returns-in_ok-visit_join-in-Join
visit-returns-in_ok-visit_join-in-Join t c =
    let known = turn-there c.args.nodes.now c.args.n c.index-nodes-n.result (turn.Join c.in-Join.built c.in-Join.probed) c.requires.down c.index-nodes-n.is (sym c.in-Join.is ∙ c.turn_at_node.ensures) in
    c.in_ok-visit_join-in-Join.ensures ∙ sym (ap (take_paths c.args.cutter.now) known.paths)

pub visit_inputs-loop-input-init : goal.visit_inputs-loop-input-init
visit_inputs-loop-input-init t c = record {
  rest = refl;
  room = λ i lt. room-moved _ c.push.new.self i c.in_ok-push.ensures (room-step c.args.cutter.now (step.Operator c.args.n) c.args.n i c.requires.room refl lt);
  down = c.requires.down;
}

pub visit_inputs-visit-requires : goal.visit_inputs-visit-requires
visit_inputs-visit-requires t c =
    let nodes = map node_of c.args.nodes.now in
    let l = c.loop-input in
    let x = get_or c.args.inputs.now l.input-index 0 in
    let here = (down-next nodes c.args.n c.args.inputs.now l.input-index c.loop-input-test.true l.invariant.down).0 in
    let lt = down-below nodes c.args.n x here in
    (omega arith, (down-down nodes c.args.n x here, l.invariant.room x lt))

pub visit_inputs-loop-input-preserved : goal.visit_inputs-loop-input-preserved
visit_inputs-loop-input-preserved t c =
    let nodes = map node_of c.args.nodes.now in
    let l = c.loop-input in
    let x = get_or c.args.inputs.now l.input-index 0 in
    record {
      rest = inputs-next nodes c.push.new.self l.cutter c.visit.new.cutter c.args.inputs.now l.input-index c.loop-input-test.true c.in_ok-visit.ensures l.invariant.rest;
      room = λ i lt. room-moved (take_paths l.cutter (paths_of nodes x)) c.visit.new.cutter i c.in_ok-visit.ensures (room-after l.cutter i (paths_of nodes x) (l.invariant.room i lt));
      down = (down-next nodes c.args.n c.args.inputs.now l.input-index c.loop-input-test.true l.invariant.down).1;
    }

pub visit_inputs-returns : goal.visit_inputs-returns
visit_inputs-returns t c =
    let nodes = map node_of c.args.nodes.now in
    let l = c.loop-input in
    inputs-taken nodes c.args.cutter.now c.push.new.self l.cutter c.pop.new.self c.args.n c.args.inputs.now l.input-index c.loop-input-test.false c.in_ok-push.ensures l.invariant.rest c.pop.ensures

pub visit_join-visit_below-requires-2 : goal.visit_join-visit_below-requires-2
visit_join-visit_below-requires-2 t c =
    let nodes = map node_of c.args.nodes.now in
    let lt = down-below nodes c.args.n c.args.probed c.requires.probed in
    let room = room-built c.args.cutter.now c.visit_below.new.cutter c.args.n (paths_of nodes c.args.built) c.requires.room c.in_ok-visit_below.ensures in
    (omega arith, (down-down nodes c.args.n c.args.probed c.requires.probed, room-step c.visit_below.new.cutter (step.Operator c.args.n) c.args.n c.args.probed room refl lt))

pub visit_join-returns : goal.visit_join-returns
visit_join-returns t c =
    let nodes = map node_of c.args.nodes.now in
    join-taken c.args.cutter.now c.visit_below.new.cutter c.visit_below-2.new.cutter c.args.n (paths_of nodes c.args.built) (paths_of nodes c.args.probed) c.in_ok-visit_below.ensures c.in_ok-visit_below-2.ensures
