use Rattle.std.proofs.Common.{◌≡◌, drop}
use Rattle.pipe_events.specs.Worlds.{mine}
use Rattle.pipe_events.specs.Decided.{is_nil}
use Rattle.pipe_replay.proofs.carried.is_idle.Given as goal

abbrev pub invariant-loop-load : goal.invariant-loop-load
invariant-loop-load l = is_nil (mine l.worker (drop l.load-index l.loads)) ≡ is_nil (mine l.worker l.loads)
