use Rattle.std.proofs.Common.{◌∙◌, sym, length, arith}
use Rattle.pipe_world.specs.Staged.{staged}
use Rattle.pipe_world.specs.Shown.{world_of}
use Rattle.pipe_replay.specs.Closing.{spent_at}
use Rattle.pipe_replay.proofs.Below.{below-stops}
use Rattle.pipe_replay.proofs.complete.are_all_spent.Goals as goal

pub returns-then-not-is_spent : goal.returns-then-not-is_spent
returns-then-not-is_spent c =
    sym (below-stops (spent_at (staged c.args.plan.now) (world_of c.args.world.now)) c.loop-n.n (staged c.args.plan.now).size (omega (arith, c.loop-n-test.true, c.len-n-end.ensures)) (sym c.is_spent.ensures ∙ c.if-not-is_spent.true))
