use Rattle.pipe_passage.proofs.Left.{lanes-left}
use Rattle.pipe_passage.proofs.leaving.leave_stage.Goals as goal

pub returns : goal.returns
returns g c = record {
  first = c.take_front-seats.result;
  shared = c.take_front-slot.ensures;
  seats_are = c.take_front-seats.ensures;
  lanes = lanes-left _ _ _ _ c.in_ok-leave_lanes.ensures.lanes c.in_ok-leave_lanes.ensures.free;
}
