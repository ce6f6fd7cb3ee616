use Rattle.std.proofs.Common.{arith, ap, length}
use Rattle.pipe_run.proofs.LaneSteps.{fit-after}
use Rattle.pipe_run.proofs.flushing.flush_behind.Goals as goal

pub returns-in-Ok-clause-fit : goal.returns-in-Ok-clause-fit
returns-in-Ok-clause-fit g c =
    let p = c.in-Ok.ensures in
    let same = c.make_contiguous-stages.ensures.writes_back c.drain_part.new.rest (omega (arith, c.drain_part.auto.rest, ap length c.make_contiguous-stages.ensures.value, c.args.lane.now.stages.ok.0)) in
    let work = rw c.make_contiguous-stages.ensures.value at c.drain_part.ensures.work in
    fit-after g.O.Operator g.K.Sink c.args.others.now c.args.context.now.row_limit (g.O.Operator.flushed c.args.operator.now) _ _ c.requires.fit (rw same work) c.drain_part.ensures.schema (λ e. rw same p.idle) (λ e. rw same p.within) (λ e. p.room)

pub returns-in-Err-clause-fit : goal.returns-in-Err-clause-fit
returns-in-Err-clause-fit g c =
    let same = c.make_contiguous-stages.ensures.writes_back c.drain_part.new.rest (omega (arith, c.drain_part.auto.rest, ap length c.make_contiguous-stages.ensures.value, c.args.lane.now.stages.ok.0)) in
    let work = rw c.make_contiguous-stages.ensures.value at c.drain_part.ensures.work in
    fit-after g.O.Operator g.K.Sink c.args.others.now c.args.context.now.row_limit (g.O.Operator.flushed c.args.operator.now) _ _ c.requires.fit (rw same work) c.drain_part.ensures.schema (λ e. cc) (λ e. cc) (λ e. cc)
