use Rattle.std.proofs.Common.{◌≡◌, ◌∙◌, true, false, cond, ap, sym}
use Rattle.pipe_events.specs.Worlds.{after}
use Rattle.pipe_events.specs.Decided.{is_allowed}
use Rattle.pipe_world.specs.Shown.{world_of}
use Rattle.pipe_events.specs.EventValues.{event_value}
use Rattle.pipe_replay.specs.Replayed.{parted}
use Rattle.pipe_replay.proofs.PlayLemmas.{more-allowed, more-run, play-stops}
use Rattle.pipe_replay.proofs.applying.apply_while_allowed.Goals as goal

pub returns-then-not-allowed-clause-played : goal.returns-then-not-allowed-clause-played
returns-then-not-allowed-clause-played g c =
    let p = parted (g.H.KeyHasher.hash_of c.args.hasher.now) c.args.plan.now in
    let w = world_of c.loop-count.world in
    let e = event_value c.index-events-count.result in
    let refused : is_allowed p w e ≡ false = sym c.in_ok-allowed.ensures.allowed ∙ c.if-not-allowed.true in
    play-stops p event_value c.args.events.now c.loop-count.count c.index-events-count.result w c.loop-count-test.true c.index-events-count.is c.loop-count.invariant.allowed c.loop-count.invariant.world _ (c.in_ok-allowed.ensures.world ∙ ap (λ b. cond b (after p w e) w) refused) refused

pub loop-count-preserved : goal.loop-count-preserved
loop-count-preserved g c =
    let p = parted (g.H.KeyHasher.hash_of c.args.hasher.now) c.args.plan.now in
    let w = world_of c.loop-count.world in
    let e = event_value c.index-events-count.result in
    let passed : is_allowed p w e ≡ true = sym c.in_ok-allowed.ensures.allowed ∙ c.if-not-allowed.false in
    record {
      allowed = more-allowed p event_value c.args.events.now c.loop-count.count c.index-events-count.result w c.loop-count-test.true c.index-events-count.is c.loop-count.invariant.allowed c.loop-count.invariant.world passed;
      world = more-run p event_value c.args.events.now c.loop-count.count c.index-events-count.result w c.loop-count-test.true c.index-events-count.is c.loop-count.invariant.allowed c.loop-count.invariant.world _ (c.in_ok-allowed.ensures.world ∙ ap (λ b. cond b (after p w e) w) passed);
      nodes = c.in_ok-allowed.ensures.nodes;
      kept = c.in_ok-allowed.ensures.kept;
    }
