use Rattle.std.proofs.Common.{List, refl, ap, sym, subst, ◌∙◌, arith}
use Rattle.std.proofs.lemmas.Result.{IfErr-weaker}
use Rattle.pipe_frame.specs.Frame.{Table}
use Rattle.pipe_ops.specs.declared.context.PExecutionContext.{PExecutionContext}
use Rattle.pipe_engine.specs.Drives.{Line}
use Rattle.pipe_engine.specs.Paced.{rows_due_of}
use Rattle.pipe_engine.proofs.Asked.{asked-memory}
use Rattle.pipe_engine.proofs.Entry.{if_ok}
use Rattle.pipe_engine.proofs.Limits.{on_ok}
use Rattle.pipe_driver.specs.Within.{AllWithin, RunEndsWith}
use Rattle.pipe_lines.proofs.Due.{paced_as}
use Rattle.pipe_lines.proofs.Handed.{due_as, listed_as, staged_as}
use Rattle.pipe_lines.proofs.Journaled.{kept_as}
use Rattle.pipe_lines.proofs.executing.execute_pipeline.Goals as goal

pub execute_branches-requires-clause-stand : goal.execute_branches-requires-clause-stand
execute_branches-requires-clause-stand g c = λ κs lives. record { asked = c.requires.stand.asked; stand = c.in-Ok.ensures.stand c.requires.stand.asked c.requires.stand.stand }

pub returns-in-Ok-clause-rows : goal.returns-in-Ok-clause-rows
returns-in-Ok-clause-rows g c =
    if_ok c.execute_branches.result (λ frame has asked stand. has asked (c.in-Ok.ensures.stand asked stand)) c.execute_branches.ensures.rows

pub returns-in-Ok-clause-frame : goal.returns-in-Ok-clause-frame
returns-in-Ok-clause-frame g c =
    if_ok c.execute_branches.result (λ frame has asked stand. has asked (c.in-Ok.ensures.stand asked stand)) c.execute_branches.ensures.frame

pub returns-in-Ok-clause-within : goal.returns-in-Ok-clause-within
returns-in-Ok-clause-within g c =
    on_ok c.execute_branches.result
    (λ has asked stand. (
    let L : PExecutionContext → Type 0 = λ z. AllWithin z.row_limit asked.ask.plan asked.ask.root in
    subst L c.in-Ok.ensures.context (has asked (c.in-Ok.ensures.stand asked stand))))
    c.execute_branches.ensures.within

pub returns-in-Ok-clause-err : goal.returns-in-Ok-clause-err
returns-in-Ok-clause-err g c =
    IfErr-weaker c.execute_branches.result _ _
    (λ e has asked stand. (
    let L : PExecutionContext → Type 0 = λ z. RunEndsWith z.row_limit asked.ask.plan asked.ask.root e in
    subst L c.in-Ok.ensures.context (has asked (c.in-Ok.ensures.stand asked stand))))
    c.execute_branches.ensures.err

pub returns-in-Err-clause-err : goal.returns-in-Err-clause-err
returns-in-Err-clause-err g c = λ asked stand. tt

pub returns-in-Ok-clause-journal : goal.returns-in-Ok-clause-journal
returns-in-Ok-clause-journal g c =
    on_ok c.execute_branches.result
    (λ has asked stand setting listed staged.
    has asked setting (c.in-Ok.ensures.stand asked stand) c.in-Ok.ensures.journal
    (listed_as _ _ c.in-Ok.lines.items _ c.in-Ok.ensures.lines listed)
    (staged_as _ _ _ c.in-Ok.run'.runner.context c.args.ec.now c.in-Ok.ensures.context staged))
    c.execute_branches.ensures.journal

pub returns-in-Ok-clause-asked : goal.returns-in-Ok-clause-asked
returns-in-Ok-clause-asked g c = c.execute_branches.ensures.asked

pub returns-in-Ok-clause-yes : goal.returns-in-Ok-clause-yes
returns-in-Ok-clause-yes g c = c.execute_branches.ensures.yes

pub returns-in-Ok-clause-last : goal.returns-in-Ok-clause-last
returns-in-Ok-clause-last g c = c.execute_branches.ensures.last

pub returns-in-Err-clause-asked : goal.returns-in-Err-clause-asked
returns-in-Err-clause-asked g c = tt

pub returns-in-Err-clause-yes : goal.returns-in-Err-clause-yes
returns-in-Err-clause-yes g c = (asked-memory g.C.StopCheck {T = Table} c.args.stop.now).yes

pub returns-in-Err-clause-last : goal.returns-in-Err-clause-last
returns-in-Err-clause-last g c = (asked-memory g.C.StopCheck {T = Table} c.args.stop.now).last

pub returns-in-Ok-clause-paced : goal.returns-in-Ok-clause-paced
returns-in-Ok-clause-paced g c =
    let a = g.C.StopCheck.asked c.args.stop.now in
    let b = g.C.StopCheck.asked c.execute_branches.new.stop in
    paced_as c.execute_branches.result c.in-Ok.run'.runner.context c.args.ec.now _ _ a b c.in-Ok.ensures.context (due_as c.in-Ok.lines.items _ c.in-Ok.ensures.lines) c.execute_branches.ensures.paced

pub returns-in-Ok-clause-kept : goal.returns-in-Ok-clause-kept
returns-in-Ok-clause-kept g c =
    let runner = c.in-Ok.run'.runner in
    let asked = g.C.StopCheck.asked in
    kept_as c.execute_branches.result runner.context c.args.ec.now (asked c.args.stop.now) (asked c.execute_branches.new.stop) runner.journal.items c.execute_branches.new.journal.items
    c.in-Ok.ensures.context c.in-Ok.ensures.journal c.execute_branches.ensures.kept
