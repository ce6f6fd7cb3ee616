use Rattle.std.proofs.Common.{◌∙◌, sym, length, arith}
use Rattle.pipe_world.specs.Staged.{staged}
use Rattle.pipe_world.specs.Shown.{world_of}
use Rattle.pipe_replay.specs.Closing.{closed_at}
use Rattle.pipe_replay.proofs.Below.{below-stops}
use Rattle.pipe_replay.proofs.complete.are_all_closed.Goals as goal

pub returns-then-not-are_sides_closed : goal.returns-then-not-are_sides_closed
returns-then-not-are_sides_closed c =
    sym (below-stops (closed_at (staged c.args.plan.now) (world_of c.args.world.now)) c.loop-n.n (staged c.args.plan.now).size (omega (arith, c.loop-n-test.true, c.len-n-end.ensures)) (sym c.are_sides_closed.ensures ∙ c.if-not-are_sides_closed.true))
