use Rattle.std.proofs.Common.{◌≡◌, length}
use Rattle.pipe_world.specs.Staged.{staged}
use Rattle.pipe_world.specs.Shown.{world_of, IsFor}
use Rattle.pipe_replay.specs.Carried.{gathered}
use Rattle.pipe_replay.specs.Sinks.{filled_below}
use Rattle.pipe_replay.proofs.emitting.emit.Given as goal

abbrev pub invariant-loop-t : goal.invariant-loop-t
invariant-loop-t l = record {
  world : world_of l.world ≡ filled_below (staged l.plan) (gathered l.flows) l.t (world_of l.initial.world);
  nodes : IsFor (staged l.plan).size l.world;
}
