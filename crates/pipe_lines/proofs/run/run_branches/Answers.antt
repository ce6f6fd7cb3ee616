use Rattle.std.proofs.Common.{◌≤◌, List, refl, ap, sym, subst, ◌∙◌, arith}
use Rattle.std.specs.Prelude.{IfErr}
use Rattle.std.proofs.lemmas.Result.{IfErr-weaker}
use Rattle.pipe_frame.specs.Frame.{Table}
use Rattle.pipe_convert.specs.Nodes.{plan_in}
use Rattle.pipe_plan.specs.Plan.{plan_of}
use Rattle.pipe_plan.specs.declared.arena.Arena.{Arena}
use Rattle.pipe_events.specs.Fitting.{TablesFit}
use Rattle.pipe_driver.specs.Within.{RunEndsWith}
use Rattle.pipe_engine.proofs.Asked.{asked-memory}
use Rattle.pipe_engine.proofs.Entry.{if_ok}
use Rattle.pipe_engine.proofs.Limits.{on_ok}
use Rattle.pipe_lines.specs.Running.{ways_in}
use Rattle.pipe_lines.specs.Standing.{asked_in}
use Rattle.pipe_lines.proofs.Complete.{only_memory_of}
use Rattle.pipe_lines.proofs.Due.{due_enough, paced_as}
use Rattle.pipe_lines.proofs.Journaled.{journaled, with_journal}
use Rattle.pipe_lines.proofs.RootOrder.{order_is}
use Rattle.pipe_lines.proofs.RootSink.{same_schema}
use Rattle.pipe_lines.proofs.run.run_branches.Goals as goal

pub execute_pipeline-requires-clause-stand : goal.execute_pipeline-requires-clause-stand
execute_pipeline-requires-clause-stand g c = λ κs lives. record { asked = asked_in c.args.plan.now c.in-Ok.ensures.settings; stand = c.in-Ok.ensures.stand }

pub returns-in-Ok-clause-rows : goal.returns-in-Ok-clause-rows
returns-in-Ok-clause-rows g c =
    if_ok c.execute_pipeline.result
    (λ frame has. has (asked_in c.args.plan.now c.in-Ok.ensures.settings) c.in-Ok.ensures.stand)
    c.execute_pipeline.ensures.rows

pub returns-in-Ok-clause-asked : goal.returns-in-Ok-clause-asked
returns-in-Ok-clause-asked g c = c.execute_pipeline.ensures.asked

pub returns-in-Ok-clause-yes : goal.returns-in-Ok-clause-yes
returns-in-Ok-clause-yes g c = c.execute_pipeline.ensures.yes

pub returns-in-Ok-clause-last : goal.returns-in-Ok-clause-last
returns-in-Ok-clause-last g c = c.execute_pipeline.ensures.last

pub returns-in-Err-clause-asked : goal.returns-in-Err-clause-asked
returns-in-Err-clause-asked g c = tt

pub returns-in-Err-clause-yes : goal.returns-in-Err-clause-yes
returns-in-Err-clause-yes g c = (asked-memory g.C.StopCheck {T = Table} c.args.stop.now).yes

pub returns-in-Err-clause-last : goal.returns-in-Err-clause-last
returns-in-Err-clause-last g c = (asked-memory g.C.StopCheck {T = Table} c.args.stop.now).last

pub returns-in-Ok-clause-paced : goal.returns-in-Ok-clause-paced
returns-in-Ok-clause-paced g c =
    let a = g.C.StopCheck.asked c.args.stop.now in
    let b = g.C.StopCheck.asked c.execute_pipeline.new.stop in
    let stand = c.in-Ok.ensures in
    let enough = due_enough g.H.KeyHasher.hash_of stand.settings c.args.plan.now c.args.context c.in-Ok.slots c.in-Ok.counts (ways_in c.in-Ok.pipelines.items) stand.stand.lent in
    paced_as c.execute_pipeline.result c.args.context c.args.context _ _ a b refl enough c.execute_pipeline.ensures.paced

pub returns-in-Ok-clause-schema : goal.returns-in-Ok-clause-schema
returns-in-Ok-clause-schema g c =
    let stand = c.in-Ok.ensures in
    if_ok c.execute_pipeline.result
    (λ frame has. same_schema {H = g.row.H.Denot} _ _ (sym (has (asked_in c.args.plan.now stand.settings) stand.stand).schema ∙ stand.root))
    c.execute_pipeline.ensures.frame

pub returns-in-Ok-clause-in_order : goal.returns-in-Ok-clause-in_order
returns-in-Ok-clause-in_order g c = λ sort. (
    let stand = c.in-Ok.ensures in
    if_ok c.execute_pipeline.result
    (λ frame has. order_is c.args.plan.now stand.settings.order frame.rows stand.order sort (has (asked_in c.args.plan.now stand.settings) stand.stand).order)
    c.execute_pipeline.ensures.frame)

pub returns-in-Ok-clause-within : goal.returns-in-Ok-clause-within
returns-in-Ok-clause-within g c =
    let stand = c.in-Ok.ensures in
    on_ok c.execute_pipeline.result (λ has. has (asked_in c.args.plan.now stand.settings) stand.stand) c.execute_pipeline.ensures.within

pub returns-in-Ok-clause-err : goal.returns-in-Ok-clause-err
returns-in-Ok-clause-err g c =
    let stand = c.in-Ok.ensures in
    IfErr-weaker c.execute_pipeline.result _ _ (λ e has. has (asked_in c.args.plan.now stand.settings) stand.stand) c.execute_pipeline.ensures.err

pub returns-in-Ok-clause-complete : goal.returns-in-Ok-clause-complete
returns-in-Ok-clause-complete g c = λ within stays.
    let stand = c.in-Ok.ensures in
    let root = c.args.plan.now.root in
    let ends : IfErr c.execute_pipeline.result (RunEndsWith c.args.context.row_limit (plan_in c.args.plan.now) root) = IfErr-weaker c.execute_pipeline.result _ _
    (λ e has. has (asked_in c.args.plan.now stand.settings) stand.stand)
    c.execute_pipeline.ensures.err in
    only_memory_of (plan_in c.args.plan.now) root c.args.context.row_limit _ _ c.execute_pipeline.result ends c.execute_pipeline.ensures.yes within stays

pub returns-in-Err-clause-complete : goal.returns-in-Err-clause-complete
returns-in-Err-clause-complete g c = λ within stays. refl

pub returns-in-Ok-clause-journal : goal.returns-in-Ok-clause-journal
returns-in-Ok-clause-journal g c =
    let plan = c.args.plan.now in
    let stand = c.in-Ok.ensures in
    let F : List Table → Type 0 = TablesFit in
    let A : Arena → Type 0 = λ arena. TablesFit (plan_of arena).frames in
    let fit = subst A c.arena.ensures.arena (subst F c.as_slice.ensures c.frames_fit.ensures) in
    let some : 1 ≤ c.args.context.workers = (let some = c.args.context.workers_in.0 in omega arith) in
    with_journal c.execute_pipeline.result
    (λ frame wrote has. journaled g.H.KeyHasher.hash_of (g.H.KeyHasher.hash_of c.args.hasher) plan c.args.context c.in-Ok.pipelines.items c.in-Ok.slots c.in-Ok.counts c.execute_pipeline.new.journal.items frame
    fit some stand wrote (has (asked_in plan stand.settings) stand.stand))
    c.execute_pipeline.ensures.journal c.execute_pipeline.ensures.rows

pub returns-in-Ok-clause-kept : goal.returns-in-Ok-clause-kept
returns-in-Ok-clause-kept g c = c.execute_pipeline.ensures.kept
