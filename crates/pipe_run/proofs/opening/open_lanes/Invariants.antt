use Rattle.std.proofs.Common.{◌≡◌, All, vec_len}
use Rattle.pipe_run.specs.Opens.{IsOpened}
use Rattle.pipe_run.proofs.opening.open_lanes.Given as goal

abbrev pub invariant-loop-thread_no : goal.invariant-loop-thread_no
invariant-loop-thread_no g l = record {
  len : vec_len l.lanes ≡ l.thread_no;
  opened : All (IsOpened g.O.Operator g.K.Sink l.stages l.target) l.lanes.items;
}
