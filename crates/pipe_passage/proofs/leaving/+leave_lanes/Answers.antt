use Rattle.pipe_passage.proofs.Left.{off-more, seats-more, staged-last}
use Rattle.pipe_passage.proofs.leaving.+leave_lanes.Goals as goal

pub leave_lane-requires : goal.leave_lane-requires
leave_lane-requires g t c = staged-last c.args.lanes.now.items _ c.in-Some.lane c.in-Some.ensures.items c.requires

pub returns-clause-lanes : goal.returns-clause-lanes
returns-clause-lanes g t c =
    off-more c.args.lanes.now.items _ _ _ c.in-Some.lane c.leave_lane.new.lane c.in-Some.ensures.items c.in_ok-push.ensures.items c.in_ok-leave_lanes.ensures.lanes c.in_ok-leave_lane.ensures.lane

pub returns-clause-free : goal.returns-clause-free
returns-clause-free g t c =
    seats-more c.args.lanes.now.items _ c.in-Some.lane c.args.free.now _ _ c.in-Some.ensures.items c.in_ok-leave_lanes.ensures.free c.in_ok-leave_lane.ensures.free
