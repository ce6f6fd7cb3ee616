use Rattle.std.proofs.Common.{◌∷◌, List, Option, map, sym, ap, subst, ◌∙◌}
use Rattle.std.specs.Global.{Vec}
use Rattle.pipe_events.specs.EventValues.{event_value}
use Rattle.pipe_events.specs.declared.event.Event.{Event}
use Rattle.pipe_frame.specs.Frame.{Table}
use Rattle.pipe_ops.specs.declared.context.PExecutionContext.{PExecutionContext}
use Rattle.pipe_ops.specs.declared.sink.FinalizedSink.{FinalizedSink}
use Rattle.pipe_source.specs.declared.phys_source.PhysSource.{PhysSource}
use Rattle.pipe_engine.specs.Drives.{Line}
use Rattle.pipe_engine.specs.Journals.{staging_of}
use Rattle.pipe_engine.specs.Known.{known_of}
use Rattle.pipe_engine.specs.Paced.{TakesPaced, most_of, rows_due_of}
use Rattle.pipe_run.specs.Paced.{KeepsPace}
use Rattle.pipe_engine.proofs.Asked.{asked-memory, asked_passed, rises}
use Rattle.pipe_engine.proofs.Breaking.{err_same}
use Rattle.pipe_lines.proofs.FrontRuns.{can_begin, front_tells, ran_front, front_answers, noted_before, noted_behind}
use Rattle.pipe_lines.proofs.Handed.{staged_as}
use Rattle.pipe_lines.specs.Running.{ways_in}
use Rattle.pipe_lines.proofs.pipe_line.PipeLine.run_pipeline.Goals as goal

pub run_front-requires-clause-can : goal.run_front-requires-clause-can
run_front-requires-clause-can g c = λ κs lives. (
    let asked = c.requires.left.asked in
    record {
      k = known_of asked;
      is = can_begin g.H.KeyHasher.hash_of asked c.args.ec.now (c.args.self.now ∷ c.args.pipelines.now.items) c.args.slots.now c.args.counts.now c.in-Ok.lent.run (c.in-Ok.lent.first ∷ c.in-Ok.lent.others.items) c.requires.left.stand (c.in-Ok.ensures.between asked c.requires.left.stand);
    })

pub run_front-requires-clause-parked : goal.run_front-requires-clause-parked
run_front-requires-clause-parked g c = λ κs lives. c.in-Ok.ensures.parked

pub returns-clause-front : goal.returns-clause-front
returns-clause-front g c = λ asked stand. (
    let lent = c.in-Ok.lent in
    let left = c.in-Ok-return_lent.left in
    let begins = can_begin g.H.KeyHasher.hash_of asked c.args.ec.now (c.args.self.now ∷ c.args.pipelines.now.items) c.args.slots.now c.args.counts.now lent.run (lent.first ∷ lent.others.items) stand (c.in-Ok.ensures.between asked stand) in
    ran_front g.H.KeyHasher.hash_of asked c.args.ec.now (c.args.self.now ∷ c.args.pipelines.now.items) left.pipelines.items (lent.first ∷ lent.others.items) c.run_front.new.pipelines.items c.args.slots.now left.slots c.args.counts.now left.counts lent.run c.run_front.new.run c.in_ok-answer.answer
    stand c.in-Ok.ensures.lines c.in-Ok-return_lent.ensures.ways (c.in_ok-answer.ensures.front (known_of asked) begins) (c.run_front.ensures.context ∙ c.in-Ok.ensures.context) c.in-Ok-return_lent.ensures.shares (c.in_ok-answer.ensures.closed c.in-Ok.ensures.none_open) c.in-Ok-return_lent.ensures.counts c.in-Ok-return_lent.ensures.workers)

pub returns-clause-answer : goal.returns-clause-answer
returns-clause-answer g c = λ asked stand. (
    let hash_of = g.H.KeyHasher.hash_of in
    let lent = c.in-Ok.lent in
    let left = c.in-Ok-return_lent.left in
    let all = c.args.self.now ∷ c.args.pipelines.now.items in
    let lines = lent.first ∷ lent.others.items in
    let begins = can_begin hash_of asked c.args.ec.now all c.args.slots.now c.args.counts.now lent.run lines stand (c.in-Ok.ensures.between asked stand) in
    let front = c.in_ok-answer.ensures.front (known_of asked) begins in
    let behind = ran_front hash_of asked c.args.ec.now all left.pipelines.items lines c.run_front.new.pipelines.items c.args.slots.now left.slots c.args.counts.now left.counts lent.run c.run_front.new.run c.in_ok-answer.answer
    stand c.in-Ok.ensures.lines c.in-Ok-return_lent.ensures.ways front (c.run_front.ensures.context ∙ c.in-Ok.ensures.context) c.in-Ok-return_lent.ensures.shares (c.in_ok-answer.ensures.closed c.in-Ok.ensures.none_open) c.in-Ok-return_lent.ensures.counts c.in-Ok-return_lent.ensures.workers in
    rw c.front_answer.ensures (front_answers hash_of asked c.args.ec.now c.args.self.now c.args.pipelines.now.items left.pipelines.items lines c.run_front.new.pipelines.items c.args.slots.now left.slots c.args.counts.now left.counts lent.run c.run_front.new.run c.in_ok-answer.answer
    stand c.in-Ok.ensures.lines c.in-Ok-return_lent.ensures.ways front behind c.in-Ok.ensures.counts (c.in_ok-answer.ensures.frame (known_of asked) begins) (c.in_ok-answer.ensures.lowers (known_of asked) begins)))

pub returns-clause-journal : goal.returns-clause-journal
returns-clause-journal g c = λ asked stand setting staged has. (
    let lent = c.in-Ok.lent in
    let left = c.in-Ok-return_lent.left in
    let lines = lent.first ∷ lent.others.items in
    let all = c.args.self.now ∷ c.args.pipelines.now.items in
    let between = c.in-Ok.ensures.between asked stand in
    let begins = can_begin g.H.KeyHasher.hash_of asked c.args.ec.now all c.args.slots.now c.args.counts.now lent.run lines stand between in
    let ran = c.in_ok-answer.ensures.front (known_of asked) begins in
    let before = noted_before g.H.KeyHasher.hash_of asked c.args.ec.now all lines c.args.slots.now c.args.counts.now lent.run c.args.journal.now.items setting stand c.in-Ok.ensures.lines between c.in-Ok.ensures.parked c.in-Ok.ensures.counts (ap (λ (v : Vec Event). map event_value v.items) c.in-Ok.ensures.journal) has in
    let noted = c.in_ok-answer.ensures.noted (known_of asked) begins (staging_of asked.ask setting) (staged_as asked.settings _ (staging_of asked.ask setting) lent.run.runner.context c.args.ec.now c.in-Ok.ensures.context staged) before in
    noted_behind g.H.KeyHasher.hash_of asked c.args.ec.now left.pipelines.items c.run_front.new.pipelines.items left.counts c.run_front.new.run left.journal.items setting c.in-Ok-return_lent.ensures.ways ran.between ran.parked c.in-Ok-return_lent.ensures.counts (ap (λ (v : Vec Event). map event_value v.items) c.in-Ok-return_lent.ensures.journal) noted)

pub returns-in_err-answer-clause-err : goal.returns-in_err-answer-clause-err
returns-in_err-answer-clause-err g c = err_same _ _ _ c.from_residual.ensures.1 (λ asked stand. (
    let lent = c.in-Ok.lent in
    let all = c.args.self.now ∷ c.args.pipelines.now.items in
    let begins = can_begin g.H.KeyHasher.hash_of asked c.args.ec.now all c.args.slots.now c.args.counts.now lent.run (lent.first ∷ lent.others.items) stand (c.in-Ok.ensures.between asked stand) in
    front_tells g.H.KeyHasher.hash_of asked c.args.ec.now all c.args.slots.now c.args.counts.now lent.run.runner.context _ stand c.in-Ok.ensures.context (c.in_err-answer.ensures.err (known_of asked) begins)))

pub returns-clause-paced : goal.returns-clause-paced
returns-clause-paced g c =
    let asked = g.C.StopCheck.asked in
    let old = asked c.args.stop.now in
    let new = asked c.run_front.new.stop in
    let C : PExecutionContext → Type 0 = λ context. TakesPaced (most_of context) (rows_due_of (c.in-Ok.lent.first ∷ c.in-Ok.lent.others.items)) (rows_due_of c.run_front.new.pipelines.items) old new in
    let A : List (Line g.row.H.Denot) → Type 0 = λ all. TakesPaced (most_of c.args.ec.now) (rows_due_of all) (rows_due_of c.run_front.new.pipelines.items) old new in
    let B : List (Line g.row.H.Denot) → Type 0 = λ rest. TakesPaced (most_of c.args.ec.now) (rows_due_of (ways_in (c.args.self.now ∷ c.args.pipelines.now.items))) (rows_due_of rest) old new in
    subst B (sym c.in-Ok-return_lent.ensures.ways) (subst A c.in-Ok.ensures.lines (subst C c.in-Ok.ensures.context c.in_ok-answer.ensures.paced))

pub returns-clause-kept : goal.returns-clause-kept
returns-clause-kept g c =
    let asked = g.C.StopCheck.asked in
    let old = asked c.args.stop.now in
    let new = asked c.run_front.new.stop in
    let C : PExecutionContext → Type 0 = λ context. KeepsPace context.workers context.chunk_rows old new c.in-Ok.lent.run.runner.journal.items c.run_front.new.run.runner.journal.items in
    let A : Vec Event → Type 0 = λ was. KeepsPace c.args.ec.now.workers c.args.ec.now.chunk_rows old new was.items c.run_front.new.run.runner.journal.items in
    let B : Vec Event → Type 0 = λ now. KeepsPace c.args.ec.now.workers c.args.ec.now.chunk_rows old new c.args.journal.now.items now.items in
    subst B (sym c.in-Ok-return_lent.ensures.journal) (subst A c.in-Ok.ensures.journal (subst C c.in-Ok.ensures.context c.in_ok-answer.ensures.kept))

pub returns-in_default-clause-err : goal.returns-in_default-clause-err
returns-in_default-clause-err g c = λ asked stand. tt

pub returns-in_default-clause-asked : goal.returns-in_default-clause-asked
returns-in_default-clause-asked g c = tt

pub returns-in_default-clause-yes : goal.returns-in_default-clause-yes
returns-in_default-clause-yes g c = (asked-memory g.C.StopCheck {T = FinalizedSink (Unit {0}) PhysSource} c.args.stop.now).yes

pub returns-in_default-clause-last : goal.returns-in_default-clause-last
returns-in_default-clause-last g c = (asked-memory g.C.StopCheck {T = FinalizedSink (Unit {0}) PhysSource} c.args.stop.now).last

pub returns-in_default-return_lent-clause-err : goal.returns-in_default-return_lent-clause-err
returns-in_default-return_lent-clause-err g c = λ asked stand. tt

pub returns-in_default-return_lent-clause-asked : goal.returns-in_default-return_lent-clause-asked
returns-in_default-return_lent-clause-asked g c = tt

pub returns-in_default-return_lent-clause-yes : goal.returns-in_default-return_lent-clause-yes
returns-in_default-return_lent-clause-yes g c = c.in_ok-answer.ensures.yes

pub returns-in_default-return_lent-clause-last : goal.returns-in_default-return_lent-clause-last
returns-in_default-return_lent-clause-last g c = (asked-memory g.C.StopCheck {T = FinalizedSink (Unit {0}) PhysSource} c.run_front.new.stop).last

pub returns-in_err-answer-clause-asked : goal.returns-in_err-answer-clause-asked
returns-in_err-answer-clause-asked g c = rises g.C.StopCheck _ _ _ (asked_passed g.C.StopCheck {S = Option Table} 1 1 _ _ _ _ c.from_residual.ensures.1 (record { asked = tt; yes = c.in_err-answer.ensures.yes; last = c.in_err-answer.ensures.last }))

pub returns-in_err-answer-clause-yes : goal.returns-in_err-answer-clause-yes
returns-in_err-answer-clause-yes g c = (asked_passed g.C.StopCheck {S = Option Table} 1 1 _ _ _ _ c.from_residual.ensures.1 (record { asked = tt; yes = c.in_err-answer.ensures.yes; last = c.in_err-answer.ensures.last })).yes

pub returns-in_err-answer-clause-last : goal.returns-in_err-answer-clause-last
returns-in_err-answer-clause-last g c = (asked_passed g.C.StopCheck {S = Option Table} 1 1 _ _ _ _ c.from_residual.ensures.1 (record { asked = tt; yes = c.in_err-answer.ensures.yes; last = c.in_err-answer.ensures.last })).last

pub returns-clause-asked : goal.returns-clause-asked
returns-clause-asked g c = c.in_ok-answer.ensures.asked

pub returns-clause-yes : goal.returns-clause-yes
returns-clause-yes g c = c.in_ok-answer.ensures.yes

pub returns-clause-last : goal.returns-clause-last
returns-clause-last g c = λ e. (let clash : ⊥ = cc in absurd clash)
