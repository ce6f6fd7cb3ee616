use Rattle.std.proofs.Common.{◌≡◌, ◌∷◌, List, Option, ℕ, sym, subst, ◌<◌, arith, ◌∙◌, refl}
use Rattle.std.proofs.lemmas.List.{nil_from_length}
use Rattle.pipe_frame.specs.Frame.{Table}
use Rattle.pipe_driver.specs.Ways.{occurs}
use Rattle.pipe_ops.specs.declared.context.PExecutionContext.{PExecutionContext}
use Rattle.pipe_source.specs.declared.phys_source.PhysSource.{PhysSource}
use Rattle.pipe_driver.specs.declared.pipe_line.PipeLine.{PipeLine}
use Rattle.pipe_engine.specs.declared.part.Part.{Part}
use Rattle.pipe_engine.specs.Paced.{TakesPaced, most_of, rows_due_from, rows_due_of}
use Rattle.pipe_engine.specs.Known.{words_of}
use Rattle.pipe_driver.specs.Tables.{number_at}
use Rattle.pipe_driver.specs.Runs.{IsAnswer}
use Rattle.pipe_driver.proofs.Fronts.{answer_newer}
use Rattle.pipe_driver.proofs.FrontSteps.{starts_by, ends_by, goes_by, open_later}
use Rattle.pipe_engine.specs.Drives.{AreOpen, CanGo, IsRootAnswer, LowersRoot}
use Rattle.pipe_engine.proofs.Lowering.{newer_lowers}
use Rattle.pipe_engine.proofs.Breaking.{err_same}
use Rattle.pipe_engine.proofs.Tellings.{limit_as}
use Rattle.pipe_engine.proofs.Asked.{asked-ok, asked-made, asked-then, asked_passed_then, rises}
use Rattle.pipe_engine.proofs.Pacing.{pace_none, pace_then}
use Rattle.pipe_engine.proofs.Paces.{paced-first, paced-none, paced-then}
use Rattle.pipe_engine.proofs.Schemas.{newer_schema}
use Rattle.pipe_engine.specs.Journals.{events_in, NotedAt}
use Rattle.pipe_engine.specs.Noted.{IsStagingOf}
use Rattle.pipe_engine.proofs.Noted.{noted_begun}
use Rattle.pipe_engine.proofs.OpenSinks.{none_open, all_closed}
use Rattle.pipe_engine.proofs.running.run_front.Goals as goal

pub branches-init : goal.branches-init
branches-init g c = record {
  on = λ k can. starts_by (words_of g.H.KeyHasher.hash_of k) k.task c.args.run.now c.args.first c.args.pipelines.now.items c.new-fed.result.items can.between c.requires.parked c.new-fed.ensures.items;
  noted = λ k can v staged noted. noted_begun (words_of g.H.KeyHasher.hash_of k) k.task v c.args.run.now c.args.first c.args.pipelines.now.items (events_in c.args.run.now.runner) noted;
  asked = asked-ok g.C.StopCheck _ _;
  schema = λ k can. tt;
  context = refl;
  paced = paced-none _ _ _;
  kept = pace_none _ c.args.run.now.runner;
  falls = λ n. omega arith;
  lowers = λ k can. tt;
  opened = λ k can none. (let N : List ℕ → Type 0 = λ ns. AreOpen ns c.args.run.now k in subst N (sym c.new-fed.ensures.items) (none_open k c.args.run.now none));
}

pub run_way-requires-clause-idle : goal.run_way-requires-clause-idle
run_way-requires-clause-idle g c = λ κs lives. (c.branches.invariant.on c.requires.can.k c.requires.can.is).on.ready.idle

pub run_way-requires-clause-can : goal.run_way-requires-clause-can
run_way-requires-clause-can g c = λ κs lives. (
    let can = c.requires.can in
    record { k = can.k; is = record { sound = can.is.sound; ready = (c.branches.invariant.on can.k can.is).on.ready } })

pub returns-then-are_closed-clause-front : goal.returns-then-are_closed-clause-front
returns-then-are_closed-clause-front g c = λ k can. (
    let on = c.branches.invariant.on k can in
    let go : CanGo g.H.KeyHasher.hash_of c.branches.run c.branches.current c.branches.pipelines.items k = record { sound = can.sound; ready = on.on.ready } in
    let stopped = c.in_ok-more.ensures.stopped k go in
    let fed = c.in_ok-more.ensures.fed k go in
    let A : Option Table → Type 0 = IsAnswer k.task c.args.run.now c.run_way.new.run in
    let Q : List ℕ → Type 0 = λ fs. (n : ℕ) → 0 < occurs n fs → number_at c.run_way.new.run.counts.left.items n ≡ 0 in
    ends_by (words_of g.H.KeyHasher.hash_of k) k.task (c.args.first ∷ c.args.pipelines.now.items) c.args.run.now c.branches.run c.run_way.new.run c.branches.current c.branches.pipelines.items c.branches.fed.items c.run_way.new.fed.items c.branches.answer c.newer-answer.result
    on stopped.between (subst A (sym c.newer-answer.ensures) (answer_newer k.task c.args.run.now c.branches.run c.run_way.new.run c.branches.answer c.in_ok-more.more on.on.root stopped.root))
    fed (subst Q c.as_slice.ensures.value (c.are_closed.ensures.yes c.if-are_closed.true)))

pub unreachable-requires : goal.unreachable-requires
unreachable-requires g c =
    let can = c.requires.can.is in
    let k = c.requires.can.k in
    let on = c.branches.invariant.on k can in
    let go : CanGo g.H.KeyHasher.hash_of c.branches.run c.branches.current c.branches.pipelines.items k = record { sound = can.sound; ready = on.on.ready } in
    let stopped = c.in_ok-more.ensures.stopped k go in
    let fed = c.in_ok-more.ensures.fed k go in
    let found = c.are_closed.ensures.open c.if-are_closed.false in
    let Q : List ℕ → Type 0 = λ fs. 0 < occurs found.0 fs in
    open_later (words_of g.H.KeyHasher.hash_of k) k.task (c.args.first ∷ c.args.pipelines.now.items) c.args.run.now c.branches.run c.run_way.new.run c.branches.current c.branches.pipelines.items c.branches.fed.items c.run_way.new.fed.items c.branches.answer found.0
    on stopped.between fed (subst Q c.as_slice.ensures.value found.1) found.2
    (nil_from_length c.branches.pipelines.items (omega (arith, c.in_default.ensures.cases.0)))

pub branches-preserved : goal.branches-preserved
branches-preserved g c =
    let most = most_of c.args.run.now.runner.context in
    let P : PExecutionContext → Type 0 = λ context. TakesPaced (most_of context) (rows_due_from c.branches.current.source) 0 (g.C.StopCheck.asked c.branches.stop) (g.C.StopCheck.asked c.run_way.new.stop) in
    let paced = paced-then most _ _ _ _ _ _ c.branches.invariant.paced (paced-first most (rows_due_from c.branches.current.source) (rows_due_of c.branches.pipelines.items) _ _ (subst P c.branches.invariant.context c.in_ok-more.ensures.paced)) in
    let Q : List (PipeLine PhysSource (Part g.row.H.Denot)) → Type 0 = λ ps. TakesPaced most (rows_due_of (c.args.first ∷ c.args.pipelines.now.items)) (rows_due_of ps) (g.C.StopCheck.asked c.args.stop.now) (g.C.StopCheck.asked c.run_way.new.stop) in
    record {
      on = λ k can. (
          let on = c.branches.invariant.on k can in
          let go : CanGo g.H.KeyHasher.hash_of c.branches.run c.branches.current c.branches.pipelines.items k = record { sound = can.sound; ready = on.on.ready } in
          let stopped = c.in_ok-more.ensures.stopped k go in
          let more = c.in_ok-more.ensures.fed k go in
          let A : Option Table → Type 0 = IsAnswer k.task c.args.run.now c.run_way.new.run in
          let found = c.are_closed.ensures.open c.if-are_closed.false in
          let Q : List ℕ → Type 0 = λ fs. 0 < occurs found.0 fs in
          let fed = subst Q c.as_slice.ensures.value found.1 in
          let is = c.in-Some.ensures.items in
          goes_by (words_of g.H.KeyHasher.hash_of k) k.task (c.args.first ∷ c.args.pipelines.now.items) c.args.run.now c.branches.run c.run_way.new.run c.branches.current c.in-Some.next c.branches.pipelines.items c.pop_front.new.self.items c.branches.fed.items c.run_way.new.fed.items c.branches.answer c.newer-answer.result found.0
          on stopped.between (subst A (sym c.newer-answer.ensures) (answer_newer k.task c.args.run.now c.branches.run c.run_way.new.run c.branches.answer c.in_ok-more.more on.on.root stopped.root))
          more fed found.2 is);
      noted = λ k can v staged noted. (
          let on = c.branches.invariant.on k can in
          let go : CanGo g.H.KeyHasher.hash_of c.branches.run c.branches.current c.branches.pipelines.items k = record { sound = can.sound; ready = on.on.ready } in
          let W : PExecutionContext → Type 0 = λ context. IsStagingOf k.settings k.task.m context.workers v in
          let ran = c.in_ok-more.ensures.noted k go v (subst W (sym c.branches.invariant.context) staged) (c.branches.invariant.noted k can v staged noted) in
          let T : List (PipeLine PhysSource (Part g.row.H.Denot)) → Type 0 = λ ps. NotedAt c.run_way.new.run ps k v in
          noted_begun (words_of g.H.KeyHasher.hash_of k) k.task v c.run_way.new.run c.in-Some.next c.pop_front.new.self.items (events_in c.run_way.new.run.runner) (subst T c.in-Some.ensures.items ran));
      schema = λ k can. (
          let on = c.branches.invariant.on k can in
          let A : Option Table → Type 0 = λ answer. IsRootAnswer answer k in
          subst A (sym c.newer-answer.ensures) (newer_schema k c.branches.answer c.in_ok-more.more (c.branches.invariant.schema k can) (c.in_ok-more.ensures.frame k (record { sound = can.sound; ready = on.on.ready }))));
      asked = asked-made g.C.StopCheck 1 0 _ _ _ _ (omega arith) (asked-then g.C.StopCheck 0 1 1 _ _ _ _ _ (omega arith) c.branches.invariant.asked c.in_ok-more.ensures.asked);
      context = c.run_way.ensures.context ∙ c.branches.invariant.context;
      paced = subst Q c.in-Some.ensures.items paced;
      kept = pace_then _ _ _ c.args.run.now.runner c.branches.run.runner c.run_way.new.run.runner c.branches.invariant.context c.branches.invariant.kept c.in_ok-more.ensures.kept;
      opened = λ k can none. c.in_ok-more.ensures.opened k (record { sound = can.sound; ready = (c.branches.invariant.on k can).on.ready }) (c.branches.invariant.opened k can none);
      falls = λ n. (let before = c.branches.invariant.falls n in let fell = c.in_ok-more.ensures.falls n in omega (arith, before, fell));
      lowers = λ k can. (
          let on = c.branches.invariant.on k can in
          let A : Option Table → Type 0 = λ answer. LowersRoot c.args.run.now c.run_way.new.run answer k in
          subst A (sym c.newer-answer.ensures) (newer_lowers k c.args.run.now c.branches.run c.run_way.new.run c.branches.answer c.in_ok-more.more c.branches.invariant.falls c.in_ok-more.ensures.falls
          (c.branches.invariant.lowers k can) (c.in_ok-more.ensures.lowers k (record { sound = can.sound; ready = on.on.ready }))));
    }

pub returns-then-are_closed-clause-asked : goal.returns-then-are_closed-clause-asked
returns-then-are_closed-clause-asked g c = rises g.C.StopCheck _ _ _ (asked-made g.C.StopCheck 1 1 _ _ _ c.newer-answer.result (omega arith) (asked-then g.C.StopCheck 0 1 1 _ _ _ _ _ (omega arith) c.branches.invariant.asked c.in_ok-more.ensures.asked))

pub returns-then-are_closed-clause-yes : goal.returns-then-are_closed-clause-yes
returns-then-are_closed-clause-yes g c = (asked-made g.C.StopCheck 1 1 _ _ _ c.newer-answer.result (omega arith) (asked-then g.C.StopCheck 0 1 1 _ _ _ _ _ (omega arith) c.branches.invariant.asked c.in_ok-more.ensures.asked)).yes

pub returns-then-are_closed-clause-last : goal.returns-then-are_closed-clause-last
returns-then-are_closed-clause-last g c = (asked-made g.C.StopCheck 1 1 _ _ _ c.newer-answer.result (omega arith) (asked-then g.C.StopCheck 0 1 1 _ _ _ _ _ (omega arith) c.branches.invariant.asked c.in_ok-more.ensures.asked)).last

pub returns-in_err-more-clause-asked : goal.returns-in_err-more-clause-asked
returns-in_err-more-clause-asked g c = rises g.C.StopCheck _ _ _ (asked_passed_then g.C.StopCheck 0 1 1 _ _ _ _ _ _ c.from_residual.ensures.1 c.branches.invariant.asked c.in_err-more.ensures.asked)

pub returns-in_err-more-clause-yes : goal.returns-in_err-more-clause-yes
returns-in_err-more-clause-yes g c = (asked_passed_then g.C.StopCheck 0 1 1 _ _ _ _ _ _ c.from_residual.ensures.1 c.branches.invariant.asked c.in_err-more.ensures.asked).yes

pub returns-in_err-more-clause-last : goal.returns-in_err-more-clause-last
returns-in_err-more-clause-last g c = (asked_passed_then g.C.StopCheck 0 1 1 _ _ _ _ _ _ c.from_residual.ensures.1 c.branches.invariant.asked c.in_err-more.ensures.asked).last

pub branches-smaller : goal.branches-smaller
branches-smaller g c = omega (arith, c.in-Some.ensures.cases)

pub returns-then-are_closed-clause-paced : goal.returns-then-are_closed-clause-paced
returns-then-are_closed-clause-paced g c = (
    let most = most_of c.args.run.now.runner.context in
    let P : PExecutionContext → Type 0 = λ context. TakesPaced (most_of context) (rows_due_from c.branches.current.source) 0 (g.C.StopCheck.asked c.branches.stop) (g.C.StopCheck.asked c.run_way.new.stop) in
    let paced = paced-then most _ _ _ _ _ _ c.branches.invariant.paced (paced-first most (rows_due_from c.branches.current.source) (rows_due_of c.branches.pipelines.items) _ _ (subst P c.branches.invariant.context c.in_ok-more.ensures.paced)) in
    paced)

pub returns-in_err-more-clause-context : goal.returns-in_err-more-clause-context
returns-in_err-more-clause-context g c = c.run_way.ensures.context ∙ c.branches.invariant.context

pub returns-then-are_closed-clause-context : goal.returns-then-are_closed-clause-context
returns-then-are_closed-clause-context g c = c.run_way.ensures.context ∙ c.branches.invariant.context

pub returns-then-are_closed-clause-frame : goal.returns-then-are_closed-clause-frame
returns-then-are_closed-clause-frame g c = λ k can. (
    let on = c.branches.invariant.on k can in
    let A : Option Table → Type 0 = λ answer. IsRootAnswer answer k in
    subst A (sym c.newer-answer.ensures) (newer_schema k c.branches.answer c.in_ok-more.more (c.branches.invariant.schema k can) (c.in_ok-more.ensures.frame k (record { sound = can.sound; ready = on.on.ready }))))

pub returns-then-are_closed-clause-noted : goal.returns-then-are_closed-clause-noted
returns-then-are_closed-clause-noted g c = λ k can v staged noted. (
    let on = c.branches.invariant.on k can in
    let go : CanGo g.H.KeyHasher.hash_of c.branches.run c.branches.current c.branches.pipelines.items k = record { sound = can.sound; ready = on.on.ready } in
    let W : PExecutionContext → Type 0 = λ context. IsStagingOf k.settings k.task.m context.workers v in
    c.in_ok-more.ensures.noted k go v (subst W (sym c.branches.invariant.context) staged) (c.branches.invariant.noted k can v staged noted))

pub returns-in_err-more-clause-err : goal.returns-in_err-more-clause-err
returns-in_err-more-clause-err g c = err_same _ _ _ c.from_residual.ensures.1 (λ k can. limit_as k.task.m _ _ _ c.branches.invariant.context (c.in_err-more.ensures.err k (record { sound = can.sound; ready = (c.branches.invariant.on k can).on.ready })))

pub returns-then-are_closed-clause-kept : goal.returns-then-are_closed-clause-kept
returns-then-are_closed-clause-kept g c = pace_then _ _ _ c.args.run.now.runner c.branches.run.runner c.run_way.new.run.runner c.branches.invariant.context c.branches.invariant.kept c.in_ok-more.ensures.kept

pub returns-then-are_closed-clause-lowers : goal.returns-then-are_closed-clause-lowers
returns-then-are_closed-clause-lowers g c = λ k can. (
    let on = c.branches.invariant.on k can in
    let A : Option Table → Type 0 = λ answer. LowersRoot c.args.run.now c.run_way.new.run answer k in
    subst A (sym c.newer-answer.ensures) (newer_lowers k c.args.run.now c.branches.run c.run_way.new.run c.branches.answer c.in_ok-more.more c.branches.invariant.falls c.in_ok-more.ensures.falls
    (c.branches.invariant.lowers k can) (c.in_ok-more.ensures.lowers k (record { sound = can.sound; ready = on.on.ready }))))

pub returns-then-are_closed-clause-closed : goal.returns-then-are_closed-clause-closed
returns-then-are_closed-clause-closed g c = λ none. (
    let k = c.requires.can.k in
    let can = c.requires.can.is in
    let Q : List ℕ → Type 0 = λ ns. (n : ℕ) → 0 < occurs n ns → number_at c.run_way.new.run.counts.left.items n ≡ 0 in
    all_closed k c.run_way.new.run c.run_way.new.fed.items (c.in_ok-more.ensures.opened k (record { sound = can.sound; ready = (c.branches.invariant.on k can).on.ready }) (c.branches.invariant.opened k can none)) (subst Q c.as_slice.ensures.value (c.are_closed.ensures.yes c.if-are_closed.true)))
