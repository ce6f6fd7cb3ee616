use Rattle.std.proofs.Common.{◌≡◌, sym, subst}
use Rattle.pipe_events.specs.Decided.{is_complete}
use Rattle.pipe_world.specs.Staged.{Staging, size_in, stage_in, staged}
use Rattle.pipe_replay.specs.KeptWorld.{KeptWorld, world_in, stages_in, IsOf}
use Rattle.pipe_replay.proofs.Worlds.{is-staging, tables-of}
use Rattle.pipe_replay.proofs.world.World.is_complete.Goals as goal

pub of-stages-requires : goal.of-stages-requires
of-stages-requires c =
    let plan = c.args.plan.now in
    let w : KeptWorld = record { tables = c.self.inside.tables; workers = c.self.inside.workers; parts = c.self.inside.parts; lists = c.self.inside.lists; shown = c.self.inside.progress } in
    tables-of plan w (subst (IsOf plan) (sym c.self.view_is) c.requires) c.arena.result.now c.arena.ensures.arena

pub returns : goal.returns
unfolding size_in stage_in
returns c = λ hash_of.
    let plan = c.args.plan.now in
    let w : KeptWorld = record { tables = c.self.inside.tables; workers = c.self.inside.workers; parts = c.self.inside.parts; lists = c.self.inside.lists; shown = c.self.inside.progress } in
    let same = is-staging plan w (subst (IsOf plan) (sym c.self.view_is) c.requires) c.arena.result.now c.of-stages.result c.arena.ensures.arena c.of-stages.ensures in
    let here = subst (λ (x : Staging). c.is_complete.result ≡ is_complete (staged x) (world_in w)) same c.is_complete.ensures in
    subst (λ (v : KeptWorld). c.is_complete.result ≡ is_complete (stages_in hash_of plan v) (world_in v)) c.self.view_is here
