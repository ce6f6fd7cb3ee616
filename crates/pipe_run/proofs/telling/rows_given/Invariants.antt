use Rattle.std.proofs.Common.{◌≡◌, ◌+◌, ◌*◌, ◌≤◌, drop, get_or}
use Rattle.pipe_run.specs.Dealt.{counts_in}
use Rattle.pipe_run.proofs.telling.rows_given.Given as goal

abbrev pub invariant-loop-lane : goal.invariant-loop-lane
invariant-loop-lane g l = record {
  known : l.rows + get_or (counts_in (drop l.lane-index l.lanes)) l.place 0 ≡ get_or (counts_in l.lanes) l.place 0;
  small : l.rows ≤ l.lane-index * 4294967294;
}
