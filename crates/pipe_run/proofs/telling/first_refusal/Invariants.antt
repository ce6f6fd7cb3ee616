use Rattle.std.proofs.Common.{drop, ◌≡◌}
use Rattle.pipe_run.specs.Dealt.{first_refused}
use Rattle.pipe_run.proofs.telling.first_refusal.Given as goal

abbrev pub invariant-loop-lane : goal.invariant-loop-lane
invariant-loop-lane g l = first_refused (drop l.lane-index l.lanes) ≡ first_refused l.lanes
