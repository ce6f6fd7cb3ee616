use Rattle.pipe_world.specs.Shown.{world_of}
use Rattle.pipe_events.specs.EventValues.{event_value}
use Rattle.pipe_replay.proofs.KeptLemmas.{kept-next}
use Rattle.pipe_replay.proofs.applying.apply_where_allowed.Goals as goal

pub returns-clause-kept : goal.returns-clause-kept
returns-clause-kept g c =
    kept-next (g.H.KeyHasher.hash_of c.args.hasher.now) c.args.plan.now (world_of c.args.world.now) _ (event_value c.args.event.now) _ c.in_ok-apply.ensures.kept c.in_ok-apply.ensures.world
