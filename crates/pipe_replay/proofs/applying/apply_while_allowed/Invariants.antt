use Rattle.std.proofs.Common.{◌≡◌, true, map, take, length}
use Rattle.pipe_events.specs.Worlds.{start}
use Rattle.pipe_events.specs.Schedules.{run}
use Rattle.pipe_events.specs.Decided.{all_allowed}
use Rattle.pipe_world.specs.Shown.{world_of, IsFor}
use Rattle.pipe_events.specs.EventValues.{event_value}
use Rattle.pipe_world.specs.Staged.{staged}
use Rattle.pipe_replay.specs.KeptLists.{AreKept}
use Rattle.pipe_replay.specs.Replayed.{parted}
use Rattle.pipe_replay.proofs.applying.apply_while_allowed.Given as goal

abbrev pub invariant-loop-count : goal.invariant-loop-count
invariant-loop-count g l = record {
  allowed : all_allowed (parted (g.H.KeyHasher.hash_of l.hasher) l.plan) start (map event_value (take l.count l.events)) ≡ true;
  world : world_of l.world ≡ run (parted (g.H.KeyHasher.hash_of l.hasher) l.plan) start (map event_value (take l.count l.events));
  nodes : IsFor (staged l.plan).size l.world;
  kept : AreKept (staged l.plan) (world_of l.world).bag l.lists;
}
