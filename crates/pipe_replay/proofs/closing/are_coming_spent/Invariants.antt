use Rattle.std.proofs.Common.{◌≡◌, true}
use Rattle.pipe_events.specs.Decided.{all_below}
use Rattle.pipe_world.specs.Staged.{staged}
use Rattle.pipe_world.specs.Shown.{world_of}
use Rattle.pipe_replay.specs.Closing.{spent_if_coming}
use Rattle.pipe_replay.proofs.closing.are_coming_spent.Given as goal

abbrev pub invariant-loop-m : goal.invariant-loop-m
invariant-loop-m l = all_below (spent_if_coming (staged l.plan) (world_of l.world) l.t) l.m ≡ true
