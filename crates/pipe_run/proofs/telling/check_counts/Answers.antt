use Rattle.std.proofs.Common.{ap, sym, ◌∙◌, arith, get_or, length}
use Rattle.pipe_run.specs.Dealt.{counts_in, nodes_in}
use Rattle.pipe_run.proofs.Sums.{places, first-nodes, length-counts-in, over-at, within-all, same-len}
use Rattle.pipe_run.proofs.telling.check_counts.Goals as goal

pub rows_given-requires-clause-place : goal.rows_given-requires-clause-place
rows_given-requires-clause-place g c =
    omega (arith, places c.args.lanes.now c.index-lanes-0.result c.requires.some c.index-lanes-0.is, c.loop-place-test.true, c.len-places.ensures, same-len c.args.lanes.now c.index-lanes-0.result c.index-lanes-0.is)

pub lane_node-requires : goal.lane_node-requires
lane_node-requires g c =
    let x = c.index-lanes-0-then-rows_given-context in
    omega (
      arith,
      places c.args.lanes.now c.index-lanes-0.result c.requires.some c.index-lanes-0.is,
      ap length (first-nodes c.args.lanes.now x.result c.requires.some x.is),
      c.loop-place-test.true,
      c.len-places.ensures,
      same-len c.args.lanes.now c.index-lanes-0.result c.index-lanes-0.is,
    )

pub returns-then-rows_given-context-clause-over : goal.returns-then-rows_given-context-clause-over
returns-then-rows_given-context-clause-over g c =
    let x = c.index-lanes-0-then-rows_given-context in
    let long = length-counts-in (nodes_in c.args.lanes.now) c.args.lanes.now c.requires.some c.requires.nodes in
    over-at c.args.context.now.row_limit (counts_in c.args.lanes.now) (nodes_in c.args.lanes.now) c.loop-place.place c.lane_node.result (omega (arith, long, places c.args.lanes.now c.index-lanes-0.result c.requires.some c.index-lanes-0.is, c.loop-place-test.true, c.len-places.ensures, same-len c.args.lanes.now c.index-lanes-0.result c.index-lanes-0.is)) long (omega (arith, c.if-rows_given-context.true, c.rows_given.ensures)) (c.lane_node.ensures ∙ ap (λ l. get_or l c.loop-place.place 0) (sym (first-nodes c.args.lanes.now x.result c.requires.some x.is)))

pub returns-clause-within : goal.returns-clause-within
returns-clause-within g c =
    let long = length-counts-in (nodes_in c.args.lanes.now) c.args.lanes.now c.requires.some c.requires.nodes in
    within-all c.args.context.now.row_limit (counts_in c.args.lanes.now) (λ k less. c.loop-place.invariant k (omega (arith, less, long, places c.args.lanes.now c.index-lanes-0.result c.requires.some c.index-lanes-0.is, c.loop-place-test.false, c.len-places.ensures, same-len c.args.lanes.now c.index-lanes-0.result c.index-lanes-0.is)))
