use Rattle.std.proofs.Common.{◌≡◌, true}
use Rattle.pipe_events.specs.Decided.{all_below}
use Rattle.pipe_world.specs.Staged.{staged}
use Rattle.pipe_world.specs.Shown.{world_of}
use Rattle.pipe_replay.specs.Joins.{join_passes, owes_none}
use Rattle.pipe_replay.proofs.may_mark.is_all_marked.Given as goal

abbrev pub invariant-loop-k : goal.invariant-loop-k
invariant-loop-k l = all_below (join_passes (staged l.plan) (owes_none (staged l.plan) (world_of l.world) l.worker)) l.k ≡ true
