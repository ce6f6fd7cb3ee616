use Rattle.std.proofs.Common.{◌∙◌, sym, length, arith}
use Rattle.pipe_world.specs.Staged.{staged}
use Rattle.pipe_world.specs.Shown.{world_of}
use Rattle.pipe_replay.specs.Joins.{join_passes, owes_none}
use Rattle.pipe_replay.proofs.Below.{below-stops}
use Rattle.pipe_replay.proofs.may_mark.is_all_marked.Goals as goal

pub returns-then-not-branch : goal.returns-then-not-branch
returns-then-not-branch c =
    sym (below-stops (join_passes (staged c.args.plan.now) (owes_none (staged c.args.plan.now) (world_of c.args.world.now) c.args.worker)) c.loop-k.k (staged c.args.plan.now).size (omega (arith, c.loop-k-test.true, c.len-k-end.ensures)) (sym c.in_ok-is_none_owed_at.ensures ∙ c.if-not-branch.true))
