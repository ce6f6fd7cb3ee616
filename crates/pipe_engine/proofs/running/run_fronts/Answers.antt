use Rattle.std.proofs.Common.{◌<◌, ◌∷◌, List, Option, length, ap, sym, subst, arith, ◌∙◌, refl}
use Rattle.std.proofs.lemmas.List.{nil_from_length}
use Rattle.pipe_frame.specs.Frame.{Table}
use Rattle.pipe_schema.proofs.Weights.{Same-from_bag}
use Rattle.pipe_source.specs.declared.phys_source.PhysSource.{PhysSource}
use Rattle.pipe_ops.specs.declared.context.PExecutionContext.{PExecutionContext}
use Rattle.pipe_engine.specs.Drives.{IsRootAnswer}
use Rattle.pipe_engine.specs.Paced.{TakesPaced, most_of, rows_due_of}
use Rattle.pipe_engine.specs.declared.part.Part.{Part}
use Rattle.pipe_engine.specs.Known.{words_of}
use Rattle.pipe_driver.specs.declared.pipe_line.PipeLine.{PipeLine}
use Rattle.pipe_driver.specs.Runs.{Between, IsAnswer}
use Rattle.pipe_driver.proofs.Fronts.{answer_newer}
use Rattle.pipe_engine.proofs.Breaking.{err_same}
use Rattle.pipe_engine.proofs.Tellings.{limit_as}
use Rattle.pipe_engine.proofs.Asked.{answers, asked-ok, asked-answers, asked-answered, asked-risen, asked-then, asked_passed_then, rises}
use Rattle.pipe_engine.proofs.Driven.{answer_there, fewer_left}
use Rattle.pipe_engine.proofs.Limits.{runs_within}
use Rattle.pipe_engine.proofs.Pacing.{pace_none, pace_then}
use Rattle.pipe_engine.proofs.Paces.{paced-none, paced-then}
use Rattle.pipe_engine.proofs.Schemas.{newer_schema}
use Rattle.std.specs.Global.{Vec}
use Rattle.pipe_events.specs.declared.event.Event.{Event}
use Rattle.pipe_run.specs.Paced.{KeepsPace}
use Rattle.pipe_engine.specs.Journals.{events_in, NotedAt, WroteWhole}
use Rattle.pipe_engine.specs.Noted.{IsStagingOf}
use Rattle.pipe_engine.proofs.Noted.{noted_whole}
use Rattle.pipe_engine.proofs.running.run_fronts.Goals as goal

pub fronts-init : goal.fronts-init
fronts-init g c =
    let most = most_of c.args.run.runner.context in
    let Q : List (PipeLine PhysSource (Part g.row.H.Denot)) → Type 0 = λ ps. TakesPaced most (rows_due_of c.args.pipelines.items) (rows_due_of ps) (g.C.StopCheck.asked c.args.stop.now) (g.C.StopCheck.asked c.args.stop.now) in
    record {
      on = λ k can. (
          let B : List (PipeLine PhysSource (Part g.row.H.Denot)) → Type 0 = Between (words_of g.H.KeyHasher.hash_of k) k.task c.args.run in
          record { sound = can.sound; between = subst B (sym c.from_vec-left.ensures.items) can.between; root = λ z. z });
      noted = λ k can v staged noted. (
          let T : List (PipeLine PhysSource (Part g.row.H.Denot)) → Type 0 = λ ps. NotedAt c.args.run ps k v in
          subst T (sym c.from_vec-left.ensures.items) noted);
      parked = c.requires.parked;
      asked = asked-ok g.C.StopCheck _ _;
      schema = λ k can. tt;
      context = refl;
      paced = subst Q (sym c.from_vec-left.ensures.items) (paced-none most (rows_due_of c.args.pipelines.items) (g.C.StopCheck.asked c.args.stop.now));
      kept = pace_none (g.C.StopCheck.asked c.args.stop.now) c.args.run.runner;
    }

pub run_front-requires-clause-can : goal.run_front-requires-clause-can
run_front-requires-clause-can g c = λ κs lives. (
    let k = c.requires.can.k in
    let on = c.fronts.invariant.on k c.requires.can.is in
    let B : List (PipeLine PhysSource (Part g.row.H.Denot)) → Type 0 = Between (words_of g.H.KeyHasher.hash_of k) k.task c.fronts.run in
    record { k = k; is = record { sound = on.sound; between = subst B c.in-Some.ensures.items on.between } })

pub run_front-requires-clause-parked : goal.run_front-requires-clause-parked
run_front-requires-clause-parked g c = λ κs lives. c.fronts.invariant.parked

pub fronts-preserved : goal.fronts-preserved
fronts-preserved g c =
    let first = c.in-Some.ensures.items in
    let most = most_of c.args.run.runner.context in
    let Q : List (PipeLine PhysSource (Part g.row.H.Denot)) → Type 0 = λ ps. TakesPaced most (rows_due_of c.args.pipelines.items) (rows_due_of ps) (g.C.StopCheck.asked c.args.stop.now) (g.C.StopCheck.asked c.fronts.stop) in
    let P : PExecutionContext → Type 0 = λ context. TakesPaced (most_of context) (rows_due_of (c.in-Some.first ∷ c.pop_front.new.self.items)) (rows_due_of c.run_front.new.pipelines.items) (g.C.StopCheck.asked c.fronts.stop) (g.C.StopCheck.asked c.run_front.new.stop) in
    let k' = c.requires.can.k in
    let on' = c.fronts.invariant.on k' c.requires.can.is in
    let B' : List (PipeLine PhysSource (Part g.row.H.Denot)) → Type 0 = Between (words_of g.H.KeyHasher.hash_of k') k'.task c.fronts.run in
    let ran' = c.in_ok-more.ensures.front k' (record { sound = on'.sound; between = subst B' first on'.between }) in
    record {
      on = λ k can. (
          let on = c.fronts.invariant.on k can in
          let B : List (PipeLine PhysSource (Part g.row.H.Denot)) → Type 0 = Between (words_of g.H.KeyHasher.hash_of k) k.task c.fronts.run in
          let A : Option Table → Type 0 = IsAnswer k.task c.args.run c.run_front.new.run in
          let ran = c.in_ok-more.ensures.front k (record { sound = on.sound; between = subst B first on.between }) in
          record {
            sound = on.sound;
            between = ran.between;
            root = subst A (sym c.newer-answer.ensures) (answer_newer k.task c.args.run c.fronts.run c.run_front.new.run c.fronts.answer c.in_ok-more.more on.root ran.root);
          });
      noted = λ k can v staged noted. (
          let on = c.fronts.invariant.on k can in
          let B : List (PipeLine PhysSource (Part g.row.H.Denot)) → Type 0 = Between (words_of g.H.KeyHasher.hash_of k) k.task c.fronts.run in
          let W : PExecutionContext → Type 0 = λ context. IsStagingOf k.settings k.task.m context.workers v in
          let T : List (PipeLine PhysSource (Part g.row.H.Denot)) → Type 0 = λ ps. NotedAt c.fronts.run ps k v in
          c.in_ok-more.ensures.noted k (record { sound = on.sound; between = subst B first on.between }) v (subst W (sym c.fronts.invariant.context) staged) (subst T first (c.fronts.invariant.noted k can v staged noted)));
      parked = ran'.parked;
      schema = λ k can. (
          let on = c.fronts.invariant.on k can in
          let B : List (PipeLine PhysSource (Part g.row.H.Denot)) → Type 0 = Between (words_of g.H.KeyHasher.hash_of k) k.task c.fronts.run in
          let A : Option Table → Type 0 = λ answer. IsRootAnswer answer k in
          subst A (sym c.newer-answer.ensures) (newer_schema k c.fronts.answer c.in_ok-more.more (c.fronts.invariant.schema k can) (c.in_ok-more.ensures.frame k (record { sound = on.sound; between = subst B first on.between }))));
      asked = asked-answers g.C.StopCheck _ _ _ _ _ (asked-then g.C.StopCheck (answers c.fronts.answer) 1 1 _ _ _ _ _ (omega arith) c.fronts.invariant.asked (asked-risen g.C.StopCheck _ _ c.in_ok-more.more c.in_ok-more.ensures.asked c.in_ok-more.ensures.yes));
      context = c.run_front.ensures.context ∙ c.fronts.invariant.context;
      paced = paced-then most _ _ _ _ _ _ (subst Q first c.fronts.invariant.paced) (subst P c.fronts.invariant.context c.in_ok-more.ensures.paced);
      kept = pace_then _ _ _ c.args.run.runner c.fronts.run.runner c.run_front.new.run.runner c.fronts.invariant.context c.fronts.invariant.kept c.in_ok-more.ensures.kept;
    }

pub fronts-smaller : goal.fronts-smaller
fronts-smaller g c =
    let first = c.in-Some.ensures.items in
    let k = c.requires.can.k in
    let on = c.fronts.invariant.on k c.requires.can.is in
    let B : List (PipeLine PhysSource (Part g.row.H.Denot)) → Type 0 = Between (words_of g.H.KeyHasher.hash_of k) k.task c.fronts.run in
    let ran = c.in_ok-more.ensures.front k (record { sound = on.sound; between = subst B first on.between }) in
    let some : 0 < length (c.in-Some.first ∷ c.pop_front.new.self.items) = omega arith in
    let fewer = fewer_left (c.in-Some.first ∷ c.pop_front.new.self.items) ran.count ran.some some in
    let later = ap length ran.later_is in
    let all = ap length first in omega arith

pub unreachable-requires : goal.unreachable-requires
unreachable-requires g c =
    let k = c.requires.can.k in
    let can = c.requires.can.is in
    let on = c.fronts.invariant.on k can in
    answer_there (words_of g.H.KeyHasher.hash_of k) k.task c.args.run c.fronts.run c.fronts.left.items c.fronts.answer on.between (nil_from_length c.fronts.left.items (omega (arith, c.in_default.ensures.cases.0))) can.root on.root c.in_default-answer.is

pub returns-clause-root : goal.returns-clause-root
returns-clause-root g c = λ k can. (
    let on = c.fronts.invariant.on k can in
    let A : Option Table → Type 0 = IsAnswer k.task c.args.run c.fronts.run in
    Same-from_bag (subst A c.in-Some-answer.is on.root))

pub returns-clause-asked : goal.returns-clause-asked
returns-clause-asked g c = rises g.C.StopCheck _ _ _ (asked-answered g.C.StopCheck _ _ _ c.in-Some-answer.frame _ _ c.in-Some-answer.is c.fronts.invariant.asked)

pub returns-clause-yes : goal.returns-clause-yes
returns-clause-yes g c = c.fronts.invariant.asked.yes

pub returns-in_err-more-clause-asked : goal.returns-in_err-more-clause-asked
returns-in_err-more-clause-asked g c = rises g.C.StopCheck _ _ _ (asked_passed_then g.C.StopCheck (answers c.fronts.answer) 1 1 _ _ _ _ _ _ c.from_residual.ensures.1 c.fronts.invariant.asked (record { asked = tt; yes = c.in_err-more.ensures.yes; last = c.in_err-more.ensures.last }))

pub returns-in_err-more-clause-yes : goal.returns-in_err-more-clause-yes
returns-in_err-more-clause-yes g c = (asked_passed_then g.C.StopCheck (answers c.fronts.answer) 1 1 _ _ _ _ _ _ c.from_residual.ensures.1 c.fronts.invariant.asked (record { asked = tt; yes = c.in_err-more.ensures.yes; last = c.in_err-more.ensures.last })).yes

pub returns-in_err-more-clause-last : goal.returns-in_err-more-clause-last
returns-in_err-more-clause-last g c = (asked_passed_then g.C.StopCheck (answers c.fronts.answer) 1 1 _ _ _ _ _ _ c.from_residual.ensures.1 c.fronts.invariant.asked (record { asked = tt; yes = c.in_err-more.ensures.yes; last = c.in_err-more.ensures.last })).last

pub returns-clause-paced : goal.returns-clause-paced
returns-clause-paced g c = (
    let most = most_of c.args.run.runner.context in
    let Q : List (PipeLine PhysSource (Part g.row.H.Denot)) → Type 0 = λ ps. TakesPaced most (rows_due_of c.args.pipelines.items) (rows_due_of ps) (g.C.StopCheck.asked c.args.stop.now) (g.C.StopCheck.asked c.fronts.stop) in
    subst Q (nil_from_length c.fronts.left.items (omega (arith, c.in_default.ensures.cases.0))) c.fronts.invariant.paced)

pub returns-clause-frame : goal.returns-clause-frame
returns-clause-frame g c = λ k can. (
    let A : Option Table → Type 0 = λ answer. IsRootAnswer answer k in
    subst A c.in-Some-answer.is (c.fronts.invariant.schema k can))

pub returns-clause-within : goal.returns-clause-within
returns-clause-within g c = λ k can.
    runs_within g.H.KeyHasher.hash_of k c.fronts.run c.fronts.left.items c.args.run.runner.context (c.fronts.invariant.on k can).between (nil_from_length c.fronts.left.items (omega (arith, c.in_default.ensures.cases.0))) c.fronts.invariant.parked c.fronts.invariant.context

pub returns-clause-journal : goal.returns-clause-journal
returns-clause-journal g c = λ k can v staged noted. (
    let on = c.fronts.invariant.on k can in
    let J : Vec Event → Type 0 = λ journal. WroteWhole journal.items k v in
    subst J (sym c.replace.ensures.value)
    (noted_whole (words_of g.H.KeyHasher.hash_of k) k.task v c.fronts.run c.fronts.left.items (events_in c.fronts.run.runner) staged.board on.between (nil_from_length c.fronts.left.items (omega (arith, c.in_default.ensures.cases.0))) (c.fronts.invariant.noted k can v staged noted)))

pub returns-in_err-more-clause-err : goal.returns-in_err-more-clause-err
returns-in_err-more-clause-err g c = err_same _ _ _ c.from_residual.ensures.1 (λ k can. (
    let on = c.fronts.invariant.on k can in
    let B : List (PipeLine PhysSource (Part g.row.H.Denot)) → Type 0 = Between (words_of g.H.KeyHasher.hash_of k) k.task c.fronts.run in
    limit_as k.task.m _ _ _ c.fronts.invariant.context (c.in_err-more.ensures.err k (record { sound = on.sound; between = subst B c.in-Some.ensures.items on.between }))))

pub returns-clause-kept : goal.returns-clause-kept
returns-clause-kept g c =
    let context = c.args.run.runner.context in
    let J : Vec Event → Type 0 = λ journal. KeepsPace context.workers context.chunk_rows (g.C.StopCheck.asked c.args.stop.now) (g.C.StopCheck.asked c.fronts.stop) c.args.run.runner.journal.items journal.items in
    subst J (sym c.replace.ensures.value) c.fronts.invariant.kept
