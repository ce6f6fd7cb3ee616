use Rattle.std.proofs.Common.{◌≡◌, true, false}
use Rattle.pipe_events.specs.Decided.{all_below}
use Rattle.pipe_plain.specs.Tables.{at_place}
use Rattle.pipe_world.specs.Staged.{staged}
use Rattle.pipe_world.specs.Shown.{world_of}
use Rattle.pipe_replay.specs.Joins.{join_passes, built_if_reached}
use Rattle.pipe_replay.proofs.chains.is_chain_built.Given as goal

abbrev pub invariant-loop-k : goal.invariant-loop-k
invariant-loop-k l = all_below (join_passes (staged l.plan) (built_if_reached (at_place false l.reached) (world_of l.world).closed)) l.k ≡ true
