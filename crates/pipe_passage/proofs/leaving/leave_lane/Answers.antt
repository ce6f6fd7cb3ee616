use Rattle.std.proofs.Common.{List, Option, [], ◌∷◌, ◌++◌, refl, ap, sym, ◌∙◌}
use Rattle.pipe_chain.specs.Flags.{SeatMarks}
use Rattle.pipe_passage.specs.LaneSeats.{seats_in, first_seats}
use Rattle.pipe_passage.proofs.leaving.leave_lane.Goals as goal

pub returns-clause-lane : goal.returns-clause-lane
returns-clause-lane g c = record {
  stage = c.take_front-stage.result;
  stages = c.take_front-stage.ensures;
  flushers = c.in_ok-push.ensures.items ∙ ap (λ (o : _). c.args.lane.now.flushers.items ++ record c.take_front-stage.result { operator = o } ∷ []) c.detach.ensures.none;
  target = refl;
  entries = refl;
  refused = refl;
}

pub returns-clause-free : goal.returns-clause-free
returns-clause-free g c =
    c.in_ok-put_seat.ensures ∙ ap (λ (o : Option SeatMarks). c.args.free.now ++ seats_in o) c.detach.ensures.seat
    ∙ ap (λ (sts : List _). c.args.free.now ++ first_seats sts) (sym c.take_front-stage.ensures)
