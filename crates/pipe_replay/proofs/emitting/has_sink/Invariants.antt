use Rattle.std.proofs.Common.{◌≡◌, ◌-◌, length}
use Rattle.std.specs.List.{list_any, range_with_len}
use Rattle.pipe_world.specs.Staged.{staged}
use Rattle.pipe_replay.specs.Sinks.{ends_at}
use Rattle.pipe_replay.proofs.emitting.has_sink.Given as goal

abbrev pub invariant-loop-n : goal.invariant-loop-n
invariant-loop-n l = list_any (ends_at (staged l.plan) l.t) (range_with_len l.n ((staged l.plan).size - l.n)) ≡ list_any (ends_at (staged l.plan) l.t) (range_with_len 0 (staged l.plan).size)
