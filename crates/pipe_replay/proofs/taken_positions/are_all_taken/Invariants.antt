use Rattle.std.proofs.Common.{◌≡◌, true}
use Rattle.pipe_world.specs.Shown.{world_of}
use Rattle.pipe_events.specs.Decided.{all_below, stands_in}
use Rattle.pipe_replay.proofs.taken_positions.are_all_taken.Given as goal

abbrev pub invariant-loop-i : goal.invariant-loop-i
invariant-loop-i l = all_below (stands_in ((world_of l.world).taken l.source)) l.i ≡ true
