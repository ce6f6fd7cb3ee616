use Rattle.std.proofs.Common.{◌∙◌, arith}
use Rattle.pipe_world.specs.Staged.{staged}
use Rattle.pipe_world.specs.Shown.{world_of}
use Rattle.pipe_replay.proofs.FilledLemmas.{emits-all}
use Rattle.pipe_replay.proofs.emitting.emit.Goals as goal

pub returns-clause-world : goal.returns-clause-world
returns-clause-world c =
    emits-all (staged c.args.plan.now) (world_of c.args.world.now) c.args.worker c.loop-t.t c.as_slice-flows.result.now _ _ (omega (arith, c.loop-t-test.false, c.loop-t.auto.t-end, c.len-t-end.ensures)) (c.as_slice-flows.ensures ∙ c.in_ok-tables.ensures) c.loop-t.invariant.world c.hand_on.ensures.world
