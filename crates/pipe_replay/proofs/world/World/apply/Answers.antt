use Rattle.std.proofs.Common.{◌≡◌, cond, sym, subst}
use Rattle.pipe_events.specs.Worlds.{after}
use Rattle.pipe_events.specs.Decided.{is_allowed}
use Rattle.pipe_events.specs.EventValues.{event_value}
use Rattle.pipe_world.specs.Staged.{Staging, size_in, stage_in}
use Rattle.pipe_world.specs.Shown.{world_of}
use Rattle.pipe_replay.specs.KeptWorld.{KeptWorld, world_in, stages_in, IsOf}
use Rattle.pipe_replay.specs.Replayed.{parted}
use Rattle.pipe_replay.proofs.Worlds.{is-staging, tables-of, has-nodes, has-parts, has-below, has-kept, stays}
use Rattle.pipe_replay.proofs.world.World.apply.Goals as goal

pub of-stages-requires : goal.of-stages-requires
of-stages-requires g c =
    let plan = c.args.plan.now in
    let w : KeptWorld = record { tables = c.self.inside.tables; workers = c.self.inside.workers; parts = c.self.inside.parts; lists = c.self.inside.lists; shown = c.self.inside.progress } in
    tables-of plan w (subst (IsOf plan) (sym c.self.view_is) c.requires) c.arena.result.now c.arena.ensures.arena

pub apply_where_allowed-requires-clause-nodes : goal.apply_where_allowed-requires-clause-nodes
apply_where_allowed-requires-clause-nodes g c = λ κs lives. (
    let plan = c.args.plan.now in
    let w : KeptWorld = record { tables = c.self.inside.tables; workers = c.self.inside.workers; parts = c.self.inside.parts; lists = c.self.inside.lists; shown = c.self.inside.progress } in
    let is = subst (IsOf plan) (sym c.self.view_is) c.requires in
    has-nodes plan w is c.of-stages.result (is-staging plan w is c.arena.result.now c.of-stages.result c.arena.ensures.arena c.of-stages.ensures))

pub apply_where_allowed-requires-clause-parts : goal.apply_where_allowed-requires-clause-parts
apply_where_allowed-requires-clause-parts g c = λ κs lives. (
    let plan = c.args.plan.now in
    let w : KeptWorld = record { tables = c.self.inside.tables; workers = c.self.inside.workers; parts = c.self.inside.parts; lists = c.self.inside.lists; shown = c.self.inside.progress } in
    let is = subst (IsOf plan) (sym c.self.view_is) c.requires in
    has-parts plan w is c.of-stages.result (is-staging plan w is c.arena.result.now c.of-stages.result c.arena.ensures.arena c.of-stages.ensures))

pub apply_where_allowed-requires-clause-below : goal.apply_where_allowed-requires-clause-below
apply_where_allowed-requires-clause-below g c = λ κs lives. (
    let plan = c.args.plan.now in
    let w : KeptWorld = record { tables = c.self.inside.tables; workers = c.self.inside.workers; parts = c.self.inside.parts; lists = c.self.inside.lists; shown = c.self.inside.progress } in
    let is = subst (IsOf plan) (sym c.self.view_is) c.requires in
    has-below plan w is c.of-stages.result (is-staging plan w is c.arena.result.now c.of-stages.result c.arena.ensures.arena c.of-stages.ensures) c.arena.ensures.good)

pub apply_where_allowed-requires-clause-kept : goal.apply_where_allowed-requires-clause-kept
apply_where_allowed-requires-clause-kept g c = λ κs lives. (
    let plan = c.args.plan.now in
    let w : KeptWorld = record { tables = c.self.inside.tables; workers = c.self.inside.workers; parts = c.self.inside.parts; lists = c.self.inside.lists; shown = c.self.inside.progress } in
    let is = subst (IsOf plan) (sym c.self.view_is) c.requires in
    has-kept plan w is c.of-stages.result (is-staging plan w is c.arena.result.now c.of-stages.result c.arena.ensures.arena c.of-stages.ensures))

pub returns-clause-allowed : goal.returns-clause-allowed
unfolding size_in stage_in
returns-clause-allowed g c =
    let plan = c.args.plan.now in
    let w : KeptWorld = record { tables = c.self.inside.tables; workers = c.self.inside.workers; parts = c.self.inside.parts; lists = c.self.inside.lists; shown = c.self.inside.progress } in
    let is = subst (IsOf plan) (sym c.self.view_is) c.requires in
    let same = is-staging plan w is c.arena.result.now c.of-stages.result c.arena.ensures.arena c.of-stages.ensures in
    let hash_of = g.H.KeyHasher.hash_of c.args.hasher.now in
    let e = event_value c.args.event.now in
    let here = subst (λ (x : Staging). c.in_ok-allowed.allowed ≡ is_allowed (parted hash_of x) (world_in w) e) same c.in_ok-allowed.ensures.allowed in
    subst (λ (v : KeptWorld). c.in_ok-allowed.allowed ≡ is_allowed (stages_in hash_of plan v) (world_in v) e) c.self.view_is here

pub returns-clause-world : goal.returns-clause-world
unfolding size_in stage_in
returns-clause-world g c =
    let plan = c.args.plan.now in
    let w : KeptWorld = record { tables = c.self.inside.tables; workers = c.self.inside.workers; parts = c.self.inside.parts; lists = c.self.inside.lists; shown = c.self.inside.progress } in
    let is = subst (IsOf plan) (sym c.self.view_is) c.requires in
    let same = is-staging plan w is c.arena.result.now c.of-stages.result c.arena.ensures.arena c.of-stages.ensures in
    let hash_of = g.H.KeyHasher.hash_of c.args.hasher.now in
    let e = event_value c.args.event.now in
    let next = world_of c.apply_where_allowed.new.world in
    let here = subst (λ (x : Staging). next ≡ cond (is_allowed (parted hash_of x) (world_in w) e) (after (parted hash_of x) (world_in w) e) (world_in w)) same c.in_ok-allowed.ensures.world in
    subst (λ (v : KeptWorld). next ≡ cond (is_allowed (stages_in hash_of plan v) (world_in v) e) (after (stages_in hash_of plan v) (world_in v) e) (world_in v)) c.self.view_is here

pub returns-clause-plan : goal.returns-clause-plan
returns-clause-plan g c =
    let plan = c.args.plan.now in
    let w : KeptWorld = record { tables = c.self.inside.tables; workers = c.self.inside.workers; parts = c.self.inside.parts; lists = c.self.inside.lists; shown = c.self.inside.progress } in
    let is = subst (IsOf plan) (sym c.self.view_is) c.requires in
    let same = is-staging plan w is c.arena.result.now c.of-stages.result c.arena.ensures.arena c.of-stages.ensures in
    stays plan w is c.of-stages.result same c.apply_where_allowed.new.lists c.apply_where_allowed.new.world c.in_ok-allowed.ensures.nodes c.in_ok-allowed.ensures.kept
