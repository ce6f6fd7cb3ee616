use Rattle.std.proofs.Common.{arith, ap, length}
use Rattle.pipe_run.proofs.LaneSteps.{fit-after}
use Rattle.pipe_run.proofs.lane.run_chunk.Goals as goal

pub returns-in-Err-clause-fit : goal.returns-in-Err-clause-fit
returns-in-Err-clause-fit g c =
    let same = c.make_contiguous-stages.ensures.writes_back c.push_shared.new.stages (omega (arith, c.push_shared.auto.stages, ap length c.make_contiguous-stages.ensures.value, c.args.lane.now.stages.ok.0)) in
    let work = rw c.make_contiguous-stages.ensures.value at c.push_shared.ensures.work in
    fit-after g.O.Operator g.K.Sink c.args.shared.now c.args.context.now.row_limit c.args.chunk.now.frame.schema _ _ c.requires.fit (rw same work) c.push_shared.ensures.schema (λ e. cc) (λ e. cc) (λ e. cc)

pub returns-in-Ok-clause-fit : goal.returns-in-Ok-clause-fit
returns-in-Ok-clause-fit g c =
    let p = c.in-Ok.ensures in
    let same = c.make_contiguous-stages.ensures.writes_back c.push_shared.new.stages (omega (arith, c.push_shared.auto.stages, ap length c.make_contiguous-stages.ensures.value, c.args.lane.now.stages.ok.0)) in
    let work = rw c.make_contiguous-stages.ensures.value at c.push_shared.ensures.work in
    fit-after g.O.Operator g.K.Sink c.args.shared.now c.args.context.now.row_limit c.args.chunk.now.frame.schema _ _ c.requires.fit (rw same work) c.push_shared.ensures.schema (λ e. rw same p.idle) (λ e. rw same p.within) (λ e. p.room)
