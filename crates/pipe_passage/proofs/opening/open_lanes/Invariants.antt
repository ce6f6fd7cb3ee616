use Rattle.std.proofs.Common.{◌≡◌, vec_len}
use Rattle.pipe_passage.specs.LaneSeats.{LanesOpened, AllRest}
use Rattle.pipe_passage.proofs.opening.open_lanes.Given as goal

abbrev pub invariant-loop-thread_no : goal.invariant-loop-thread_no
invariant-loop-thread_no g l = record {
  len : vec_len l.made ≡ l.thread_no;
  opened : LanesOpened g.K.Sink l.shared l.initial.free l.free l.stages l.target l.made.items;
  rest : AllRest l.thread_no l.shared l.free;
}
