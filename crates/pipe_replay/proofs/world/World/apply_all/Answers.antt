use Rattle.std.proofs.Common.{◌≡◌, map, sym, subst}
use Rattle.pipe_events.specs.Worlds.{start}
use Rattle.pipe_events.specs.EventValues.{event_value}
use Rattle.pipe_world.specs.Staged.{Staging, size_in, stage_in}
use Rattle.pipe_world.specs.Shown.{world_of}
use Rattle.pipe_replay.specs.KeptWorld.{KeptWorld, world_in, IsOf}
use Rattle.pipe_replay.specs.Replayed.{parted, IsPlayed}
use Rattle.pipe_replay.proofs.Worlds.{is-staging, tables-of, has-nodes, has-parts, has-below, has-kept, stays}
use Rattle.pipe_replay.proofs.world.World.apply_all.Goals as goal

pub of-stages-requires : goal.of-stages-requires
of-stages-requires g c =
    let plan = c.args.plan.now in
    let w : KeptWorld = record { tables = c.self.inside.tables; workers = c.self.inside.workers; parts = c.self.inside.parts; lists = c.self.inside.lists; shown = c.self.inside.progress } in
    tables-of plan w (subst (IsOf plan) (sym c.self.view_is) c.requires.plan) c.arena.result.now c.arena.ensures.arena

pub apply_while_allowed-requires-clause-start : goal.apply_while_allowed-requires-clause-start
apply_while_allowed-requires-clause-start g c = λ κs lives. subst (λ (v : KeptWorld). world_in v ≡ start) (sym c.self.view_is) c.requires.start

pub apply_while_allowed-requires-clause-nodes : goal.apply_while_allowed-requires-clause-nodes
apply_while_allowed-requires-clause-nodes g c = λ κs lives. (
    let plan = c.args.plan.now in
    let w : KeptWorld = record { tables = c.self.inside.tables; workers = c.self.inside.workers; parts = c.self.inside.parts; lists = c.self.inside.lists; shown = c.self.inside.progress } in
    let is = subst (IsOf plan) (sym c.self.view_is) c.requires.plan in
    has-nodes plan w is c.of-stages.result (is-staging plan w is c.arena.result.now c.of-stages.result c.arena.ensures.arena c.of-stages.ensures))

pub apply_while_allowed-requires-clause-parts : goal.apply_while_allowed-requires-clause-parts
apply_while_allowed-requires-clause-parts g c = λ κs lives. (
    let plan = c.args.plan.now in
    let w : KeptWorld = record { tables = c.self.inside.tables; workers = c.self.inside.workers; parts = c.self.inside.parts; lists = c.self.inside.lists; shown = c.self.inside.progress } in
    let is = subst (IsOf plan) (sym c.self.view_is) c.requires.plan in
    has-parts plan w is c.of-stages.result (is-staging plan w is c.arena.result.now c.of-stages.result c.arena.ensures.arena c.of-stages.ensures))

pub apply_while_allowed-requires-clause-below : goal.apply_while_allowed-requires-clause-below
apply_while_allowed-requires-clause-below g c = λ κs lives. (
    let plan = c.args.plan.now in
    let w : KeptWorld = record { tables = c.self.inside.tables; workers = c.self.inside.workers; parts = c.self.inside.parts; lists = c.self.inside.lists; shown = c.self.inside.progress } in
    let is = subst (IsOf plan) (sym c.self.view_is) c.requires.plan in
    has-below plan w is c.of-stages.result (is-staging plan w is c.arena.result.now c.of-stages.result c.arena.ensures.arena c.of-stages.ensures) c.arena.ensures.good)

pub apply_while_allowed-requires-clause-kept : goal.apply_while_allowed-requires-clause-kept
apply_while_allowed-requires-clause-kept g c = λ κs lives. (
    let plan = c.args.plan.now in
    let w : KeptWorld = record { tables = c.self.inside.tables; workers = c.self.inside.workers; parts = c.self.inside.parts; lists = c.self.inside.lists; shown = c.self.inside.progress } in
    let is = subst (IsOf plan) (sym c.self.view_is) c.requires.plan in
    has-kept plan w is c.of-stages.result (is-staging plan w is c.arena.result.now c.of-stages.result c.arena.ensures.arena c.of-stages.ensures))

pub returns-clause-played : goal.returns-clause-played
unfolding size_in stage_in
returns-clause-played g c =
    let plan = c.args.plan.now in
    let w : KeptWorld = record { tables = c.self.inside.tables; workers = c.self.inside.workers; parts = c.self.inside.parts; lists = c.self.inside.lists; shown = c.self.inside.progress } in
    let is = subst (IsOf plan) (sym c.self.view_is) c.requires.plan in
    let same = is-staging plan w is c.arena.result.now c.of-stages.result c.arena.ensures.arena c.of-stages.ensures in
    let hash_of = g.H.KeyHasher.hash_of c.args.hasher.now in
    subst (λ (x : Staging). IsPlayed (parted hash_of x) (map event_value c.args.events.now) (world_of c.apply_while_allowed.new.world) c.in_ok-count.count) same c.in_ok-count.ensures.played

pub returns-clause-plan : goal.returns-clause-plan
returns-clause-plan g c =
    let plan = c.args.plan.now in
    let w : KeptWorld = record { tables = c.self.inside.tables; workers = c.self.inside.workers; parts = c.self.inside.parts; lists = c.self.inside.lists; shown = c.self.inside.progress } in
    let is = subst (IsOf plan) (sym c.self.view_is) c.requires.plan in
    let same = is-staging plan w is c.arena.result.now c.of-stages.result c.arena.ensures.arena c.of-stages.ensures in
    stays plan w is c.of-stages.result same c.apply_while_allowed.new.lists c.apply_while_allowed.new.world c.in_ok-count.ensures.nodes c.in_ok-count.ensures.kept
