use Rattle.std.proofs.Common.{◌≡◌, map, take}
use Rattle.pipe_events.specs.Worlds.{mine}
use Rattle.pipe_world.specs.Staged.{staged}
use Rattle.pipe_world.specs.Shown.{world_of}
use Rattle.pipe_replay.specs.Carried.{load_table}
use Rattle.pipe_replay.proofs.carried.carried_tables.Given as goal

abbrev pub invariant-loop-load : goal.invariant-loop-load
invariant-loop-load l = l.tables ≡ map (load_table (staged l.plan) (world_of l.world).bag) (mine l.worker (take l.load-index l.loads))
