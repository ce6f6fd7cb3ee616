use Rattle.std.proofs.Common.{◌≡◌, ◌∙◌, [], ◌++◌, ap}
use Rattle.pipe_events.specs.Stages.{flow_at, only}
use Rattle.pipe_plain.specs.Tables.{at_place}
use Rattle.pipe_world.specs.Staged.{staged}
use Rattle.pipe_world.proofs.Tables.{more}
use Rattle.pipe_world.proofs.flows.flows_of.Goals as goal

pub loop-k-preserved : goal.loop-k-preserved
loop-k-preserved c =
    let k = c.loop-k.k in
    let own = only c.args.node c.args.rows.now in
    let made = rw (c.as_slice.ensures, c.stage.ensures) at c.in_ok-made.ensures in
    c.in_ok-push.ensures.ok ∙ more [] (flow_at (staged c.args.plan.now) (at_place [] c.args.bags.now) own) k c.loop-k.flows c.in_ok-all.all c.loop-k.invariant (c.in_ok-all.ensures ∙ ap (λ l. own k ++ l) made)
