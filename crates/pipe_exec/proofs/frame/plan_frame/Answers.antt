use Rattle.pipe_frame.specs.Frame.{Table}
use Rattle.pipe_plan.specs.Plan.{plan_of}
use Rattle.pipe_exec.proofs.Frames.{counted_as, ends, last_said}
use Rattle.pipe_exec.proofs.frame.plan_frame.Goals as goal

pub returns-in-Ok-clause-schema : goal.returns-in-Ok-clause-schema
returns-in-Ok-clause-schema g c = c.in-Ok.ensures.schema

pub returns-in-Ok-clause-rows : goal.returns-in-Ok-clause-rows
returns-in-Ok-clause-rows g c = record { same = c.in-Ok.ensures.rows; in_order = c.in-Ok.ensures.in_order }

pub returns-in-Ok-clause-within : goal.returns-in-Ok-clause-within
returns-in-Ok-clause-within g c = c.in-Ok.ensures.within

pub returns-in-Ok-clause-journal : goal.returns-in-Ok-clause-journal
returns-in-Ok-clause-journal g c = c.in-Ok.ensures.journal

pub returns-in-Ok-clause-paced : goal.returns-in-Ok-clause-paced
returns-in-Ok-clause-paced g c = c.in-Ok.ensures.kept

pub returns-in-Ok-clause-asked : goal.returns-in-Ok-clause-asked
returns-in-Ok-clause-asked g c = c.in-Ok.ensures.asked

pub returns-in-Ok-clause-yes : goal.returns-in-Ok-clause-yes
returns-in-Ok-clause-yes g c = c.in-Ok.ensures.yes

pub returns-in-Err-clause-err : goal.returns-in-Err-clause-err
returns-in-Err-clause-err g c =
    let plan = c.args.plan.now in
    ends c.args.context.row_limit (plan_of plan.arena) plan.root c.in-Err.error c.plan_error.result c.plan_error.ensures c.in-Err.ensures.err

pub returns-in-Err-clause-yes : goal.returns-in-Err-clause-yes
returns-in-Err-clause-yes g c = counted_as c.in-Err.error c.plan_error.result _ _ c.plan_error.ensures c.in-Err.ensures.yes

pub returns-in-Err-clause-last : goal.returns-in-Err-clause-last
returns-in-Err-clause-last g c = last_said {T = Table} c.in-Err.error c.plan_error.result c.plan_error.ensures c.in-Err.ensures.last
