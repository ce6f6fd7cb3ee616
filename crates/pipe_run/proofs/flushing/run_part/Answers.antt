use Rattle.pipe_run.specs.Flushes.{flushed_by}
use Rattle.pipe_run.specs.Lanes.{IsCalm}
use Rattle.pipe_run.proofs.FlushSteps.{flusher-is, has-flusher, flusher-after, fit-apart, fit-back, ran-back}
use Rattle.pipe_run.proofs.flushing.run_part.Goals as goal

pub flush_behind-requires-clause-closed : goal.flush_behind-requires-clause-closed
flush_behind-requires-clause-closed g c κs lives =
    (flusher-is g.O.Operator g.K.Sink c.args.own.now c.args.others.now c.args.context.now.row_limit (flushed_by g.O.Operator c.args.lane.now) _ _ _ (IsCalm c.args.lane.now) c.in-Some.ensures.items c.requires.fit.flusher).closed

pub flush_behind-requires-clause-idle : goal.flush_behind-requires-clause-idle
flush_behind-requires-clause-idle g c κs lives =
    (flusher-is g.O.Operator g.K.Sink c.args.own.now c.args.others.now c.args.context.now.row_limit (flushed_by g.O.Operator c.args.lane.now) _ _ _ (IsCalm c.args.lane.now) c.in-Some.ensures.items c.requires.fit.flusher).idle c.requires.calm

pub flush_behind-requires-clause-fit : goal.flush_behind-requires-clause-fit
flush_behind-requires-clause-fit g c κs lives =
    let one = flusher-is g.O.Operator g.K.Sink c.args.own.now c.args.others.now c.args.context.now.row_limit (flushed_by g.O.Operator c.args.lane.now) _ _ _ (IsCalm c.args.lane.now) c.in-Some.ensures.items c.requires.fit.flusher in
    fit-apart g.O.Operator g.K.Sink c.args.others.now c.args.context.now.row_limit (flushed_by g.O.Operator c.args.lane.now) _ c.args.lane.now _ one.from_is c.requires.fit.fit

pub returns-clause-fit : goal.returns-clause-fit
returns-clause-fit g c =
    let from = flushed_by g.O.Operator c.args.lane.now in
    let one = flusher-is g.O.Operator g.K.Sink c.args.own.now c.args.others.now c.args.context.now.row_limit from _ _ _ (IsCalm c.args.lane.now) c.in-Some.ensures.items c.requires.fit.flusher in
    let after = flusher-after g.O.Operator g.K.Sink c.args.own.now c.args.others.now c.args.context.now.row_limit from (IsCalm c.args.lane.now) (IsCalm c.flush_behind.new.lane) _ _ one c.flush_behind.ensures.flushed c.flush_behind.ensures.idle in
    record {
      fit = fit-back g.O.Operator g.K.Sink c.args.others.now c.args.context.now.row_limit from _ c.flush_behind.new.lane _ one.from_is c.flush_behind.ensures.fit;
      flusher = has-flusher g.O.Operator g.K.Sink c.args.own.now c.args.others.now c.args.context.now.row_limit from _ _ _ (IsCalm c.flush_behind.new.lane) c.push_reserved.ensures.items after;
    }

pub returns-clause-ran : goal.returns-clause-ran
returns-clause-ran g c =
    let from = flushed_by g.O.Operator c.args.lane.now in
    let one = flusher-is g.O.Operator g.K.Sink c.args.own.now c.args.others.now c.args.context.now.row_limit from _ _ _ (IsCalm c.args.lane.now) c.in-Some.ensures.items c.requires.fit.flusher in
    ran-back g.O.Operator g.K.Sink c.args.others.now c.args.context.now.row_limit from _ _ c.args.lane.now c.flush_behind.new.lane _ _ one.from_is c.flush_behind.ensures.ran
