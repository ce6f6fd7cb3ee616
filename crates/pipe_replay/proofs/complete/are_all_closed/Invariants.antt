use Rattle.std.proofs.Common.{◌≡◌, true}
use Rattle.pipe_events.specs.Decided.{all_below}
use Rattle.pipe_world.specs.Staged.{staged}
use Rattle.pipe_world.specs.Shown.{world_of}
use Rattle.pipe_replay.specs.Closing.{closed_at}
use Rattle.pipe_replay.proofs.complete.are_all_closed.Given as goal

abbrev pub invariant-loop-n : goal.invariant-loop-n
invariant-loop-n l = all_below (closed_at (staged l.plan) (world_of l.world)) l.n ≡ true
