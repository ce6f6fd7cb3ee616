use Rattle.std.proofs.Common.{◌≡◌, ◌∙◌, false, eqb, ap}
use Rattle.std.specs.Prelude.{◌||◌}
use Rattle.pipe_events.specs.Stages.{reach_at}
use Rattle.pipe_world.specs.Staged.{staged}
use Rattle.pipe_world.proofs.Tables.{more}
use Rattle.pipe_world.proofs.reach.reach_marks.Goals as goal

pub loop-k-preserved : goal.loop-k-preserved
loop-k-preserved c =
    let k = c.loop-k.k in
    let n = c.args.n in
    let fed = rw (c.as_slice.ensures, c.stage.ensures) at c.is_fed-fed.ensures in
    c.in_ok-push.ensures.ok ∙ more false (reach_at (staged c.args.plan.now) n) k c.loop-k.marks c.is_reached-reached.result c.loop-k.invariant (c.is_reached-reached.ensures ∙ ap (λ b. eqb k n || b) fed)
