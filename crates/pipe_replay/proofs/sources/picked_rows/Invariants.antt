use Rattle.std.proofs.Common.{◌≡◌}
use Rattle.std.specs.List.{range_with_len}
use Rattle.pipe_events.specs.Worlds.{picked}
use Rattle.pipe_replay.proofs.sources.picked_rows.Given as goal

abbrev pub invariant-loop-i : goal.invariant-loop-i
invariant-loop-i l = l.made ≡ picked l.rows (range_with_len l.from l.i)
