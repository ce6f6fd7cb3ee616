use Rattle.pipe_run.proofs.Splits.{split-more}
use Rattle.pipe_run.proofs.opening.split_stages.Goals as goal

pub loop-stage-preserved : goal.loop-stage-preserved
loop-stage-preserved g c =
    split-more g.O.Operator c.args.stages.now c.loop-stage.made.items _ c.loop-stage.stage-index c.stage-item.result _ c.loop-stage-test.true c.stage-item.is c.in_ok-push.ensures.items c.loop-stage.invariant c.in_ok-split_stage.ensures
