use Rattle.std.proofs.Common.{◌∙◌, sym, length, arith}
use Rattle.pipe_world.specs.Staged.{staged}
use Rattle.pipe_world.specs.Shown.{world_of}
use Rattle.pipe_replay.specs.Closing.{spent_if_coming}
use Rattle.pipe_replay.proofs.Below.{below-stops}
use Rattle.pipe_replay.proofs.closing.are_coming_spent.Goals as goal

pub returns-then-not-branch : goal.returns-then-not-branch
returns-then-not-branch c =
    sym (below-stops (spent_if_coming (staged c.args.plan.now) (world_of c.args.world.now) c.args.t) c.loop-m.m (staged c.args.plan.now).size (omega (arith, c.loop-m-test.true, c.len-m-end.ensures)) (sym c.in_ok-is_spent_if_coming.ensures ∙ c.if-not-branch.true))
