use Rattle.std.proofs.Common.{◌∙◌, sym, length, arith}
use Rattle.pipe_world.specs.Staged.{staged}
use Rattle.pipe_world.specs.Shown.{world_of}
use Rattle.pipe_replay.specs.Joins.{join_passes, built_if_probed}
use Rattle.pipe_replay.proofs.Below.{below-stops}
use Rattle.pipe_replay.proofs.closing.are_probes_built.Goals as goal

pub returns-then-not-is_probe_built : goal.returns-then-not-is_probe_built
returns-then-not-is_probe_built c =
    sym (below-stops (join_passes (staged c.args.plan.now) (built_if_probed c.args.t (world_of c.args.world.now).closed)) c.loop-k.k (staged c.args.plan.now).size (omega (arith, c.loop-k-test.true, c.len-k-end.ensures)) (sym c.is_probe_built.ensures ∙ c.if-not-is_probe_built.true))
