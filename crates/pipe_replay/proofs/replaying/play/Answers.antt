use Rattle.std.proofs.Common.{map, subst}
use Rattle.pipe_plan.specs.Plan.{plan_of}
use Rattle.pipe_plan.specs.declared.arena.Arena.{Arena}
use Rattle.pipe_events.specs.EventValues.{event_value}
use Rattle.pipe_events.specs.Fitting.{TablesFit}
use Rattle.pipe_replay.specs.KeptWorld.{world_in}
use Rattle.pipe_replay.proofs.EndLemmas.{has-the-rows}
use Rattle.pipe_replay.proofs.Parts.{some-parts}
use Rattle.pipe_replay.proofs.replaying.play.Goals as goal

pub returns-clause-rows : goal.returns-clause-rows
returns-clause-rows g c =
    let plan = c.args.plan.now in
    let w = c.apply_all.new.self in
    let fit = subst (λ (a : Arena). TablesFit a.frames) c.arena.ensures.arena (subst TablesFit c.as_slice.ensures c.frames_fit.ensures) in
    has-the-rows (g.H.KeyHasher.hash_of c.args.hasher.now) (plan_of plan.arena) plan.root w.workers w.parts (some-parts w.workers w.parts c.in_ok-count.ensures.plan.parts) c.arena.ensures.good.faultless fit (map event_value c.args.events.now) (world_in w) c.in_ok-count.count c.in_ok-count.ensures.played
