use Rattle.std.proofs.Common.{arith}
use Rattle.pipe_run.specs.Dealt.{nodes_in}
use Rattle.pipe_run.proofs.Sums.{given-on, place-in, given-within}
use Rattle.pipe_run.proofs.telling.rows_given.Goals as goal

pub lane_given-rows-requires : goal.lane_given-rows-requires
lane_given-rows-requires g c =
    place-in (nodes_in c.args.lanes.now) c.args.lanes.now c.loop-lane.lane-index c.args.place c.lane-item.result c.loop-lane-test.true c.lane-item.is c.requires.nodes c.requires.place

pub overflow_add-rows : goal.overflow_add-rows
overflow_add-rows g c =
    let one = given-within c.args.context.now.row_limit c.args.lanes.now c.loop-lane.lane-index c.args.place c.lane-item.result c.loop-lane-test.true c.lane-item.is c.requires.within in
    omega (arith, one, c.lane_given-rows.ensures, c.loop-lane.invariant.small, c.loop-lane-test.true, c.requires.few, c.args.context.now.limit_in.1)

pub loop-lane-preserved : goal.loop-lane-preserved
loop-lane-preserved g c =
    let one = given-within c.args.context.now.row_limit c.args.lanes.now c.loop-lane.lane-index c.args.place c.lane-item.result c.loop-lane-test.true c.lane-item.is c.requires.within in
    record {
      known = given-on c.args.lanes.now c.lane-item.result c.loop-lane.lane-index c.args.place c.lane_given-rows.result c.loop-lane.rows _ c.loop-lane-test.true c.lane-item.is c.lane_given-rows.ensures c.loop-lane.invariant.known;
      small = omega (arith, one, c.lane_given-rows.ensures, c.loop-lane.invariant.small, c.args.context.now.limit_in.1);
    }
