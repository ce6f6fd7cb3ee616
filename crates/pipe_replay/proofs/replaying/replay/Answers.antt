use Rattle.std.proofs.Common.{◌≡◌, ◌<◌, length, map, subst, arith}
use Rattle.std.proofs.lemmas.List.{length-map}
use Rattle.pipe_events.specs.EventValues.{event_value}
use Rattle.pipe_events.specs.Stages.{Stages}
use Rattle.pipe_replay.specs.KeptWorld.{world_in, stages_for}
use Rattle.pipe_replay.specs.Replayed.{IsPlayed}
use Rattle.pipe_replay.proofs.PlayLemmas.{replays-all, replays-none}
use Rattle.pipe_replay.proofs.Worlds.{for-parts}
use Rattle.pipe_replay.proofs.replaying.replay.Goals as goal

pub returns-then-count-events-clause-world : goal.returns-then-count-events-clause-world
returns-then-count-events-clause-world g c = λ parts given.
    let hash_of = g.H.KeyHasher.hash_of c.args.hasher.now in
    let plan = c.args.plan.now in
    let events = map event_value c.args.events.now in
    let w = c.in_ok-world.field-0.world in
    let count = c.in_ok-world.field-0.count in
    let same = for-parts hash_of plan w c.args.workers parts c.in_ok-world.ensures.workers c.in_ok-world.ensures.plan.parts given in
    let played = subst (λ (p : Stages). IsPlayed p events (world_in w) count) same c.in_ok-world.ensures.played in
    let long = length-map c.args.events.now event_value in
    let all : count ≡ length events = omega (arith, long, c.if-count-events.true) in
    replays-all (stages_for hash_of plan c.args.workers parts) events (world_in w) count played all

pub returns-else-count-events-clause-world : goal.returns-else-count-events-clause-world
returns-else-count-events-clause-world g c = λ parts given.
    let hash_of = g.H.KeyHasher.hash_of c.args.hasher.now in
    let plan = c.args.plan.now in
    let events = map event_value c.args.events.now in
    let w = c.in_ok-world.field-0.world in
    let count = c.in_ok-world.field-0.count in
    let same = for-parts hash_of plan w c.args.workers parts c.in_ok-world.ensures.workers c.in_ok-world.ensures.plan.parts given in
    let played = subst (λ (p : Stages). IsPlayed p events (world_in w) count) same c.in_ok-world.ensures.played in
    let long = length-map c.args.events.now event_value in
    let fewer : count < length events = omega (arith, long, played.within, c.if-count-events.false) in
    replays-none (stages_for hash_of plan c.args.workers parts) events (world_in w) count played fewer
