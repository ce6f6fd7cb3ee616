use Rattle.std.proofs.Common.{◌≡◌, true}
use Rattle.pipe_events.specs.Decided.{all_below}
use Rattle.pipe_world.specs.Shown.{world_of}
use Rattle.pipe_replay.specs.Sources.{is_fresh}
use Rattle.pipe_replay.proofs.taken_positions.are_fresh.Given as goal

abbrev pub invariant-loop-i : goal.invariant-loop-i
invariant-loop-i l = all_below (is_fresh ((world_of l.world).taken l.source) l.from) l.i ≡ true
