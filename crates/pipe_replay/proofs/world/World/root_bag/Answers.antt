use Rattle.std.proofs.Common.{◌≡◌, subst}
use Rattle.pipe_replay.specs.KeptWorld.{KeptWorld, world_in}
use Rattle.pipe_replay.proofs.world.World.root_bag.Goals as goal

pub returns : goal.returns
returns c = subst (λ (v : KeptWorld). c.bag.result.now ≡ (world_in v).bag v.tables.root) c.self.view_is c.bag.ensures
