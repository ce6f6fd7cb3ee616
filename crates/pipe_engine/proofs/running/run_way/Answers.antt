use Rattle.std.proofs.Common.{◌≡◌, subst, sym, ap, arith, refl, ◌∙◌}
use Rattle.pipe_source.specs.declared.phys_source.PhysSource.{PhysSource}
use Rattle.pipe_ops.specs.declared.context.PExecutionContext.{PExecutionContext}
use Rattle.pipe_driver.specs.declared.branch.SinkAt.{SinkAt}
use Rattle.pipe_driver.specs.Tables.{number_at}
use Rattle.pipe_driver.specs.declared.sink_counts.SinkCounts.{SinkCounts}
use Rattle.pipe_engine.specs.Drives.{AnswersAt, IsRootNext}
use Rattle.pipe_engine.specs.Paced.{TakesPaced, most_of, rows_due_from}
use Rattle.pipe_engine.specs.declared.part.Part.{Part}
use Rattle.pipe_engine.specs.Known.{words_of}
use Rattle.pipe_driver.specs.Runs.{IsNext, sink_of}
use Rattle.pipe_driver.specs.declared.run.Next.{Next}
use Rattle.pipe_driver.proofs.FrontSteps.{fed_none, fed_leg, fed_goes, fed_stays, stopped_open, went_on}
use Rattle.pipe_engine.proofs.Breaking.{err_same}
use Rattle.pipe_engine.proofs.Tellings.{limit_as, not_many}
use Rattle.pipe_engine.proofs.Asked.{asked-ok, asked-made, asked-then, asked-lost, asked_lost, asked_passed_then}
use Rattle.pipe_engine.proofs.Pacing.{pace_none, pace_then}
use Rattle.pipe_engine.proofs.Paces.{paced-more, paced-none, paced-then}
use Rattle.pipe_engine.specs.Journals.{events_in, NotedThen}
use Rattle.pipe_engine.specs.Noted.{IsStagingOf}
use Rattle.pipe_engine.proofs.Noted.{noted_open}
use Rattle.pipe_engine.proofs.OpenSinks.{left_open, closed_open}
use Rattle.pipe_engine.proofs.running.run_way.Goals as goal

pub ways-init : goal.ways-init
ways-init g c = record { on = λ k can. record { ready = can.ready; root = λ z. z; fed = fed_none k.task c.args.first c.args.run.now c.args.fed.now.items }; noted = λ k can v staged noted. noted; asked = asked-ok g.C.StopCheck _ _; context = refl; paced = paced-none _ _ _; kept = pace_none _ c.args.run.now.runner; falls = λ n. omega arith; opened = λ k can was. was }

pub feed-requires-clause-idle : goal.feed-requires-clause-idle
feed-requires-clause-idle g c = λ κs lives. (c.ways.invariant.on c.requires.can.k c.requires.can.is).ready.idle

pub feed-requires-clause-can : goal.feed-requires-clause-can
feed-requires-clause-can g c = λ κs lives. (
    let can = c.requires.can in
    record { k = can.k; is = record { sound = can.is.sound; ready = (c.ways.invariant.on can.k can.is).ready } })

pub returns-then-done-gt0-clause-stopped : goal.returns-then-done-gt0-clause-stopped
returns-then-done-gt0-clause-stopped g c = λ k can. (
    let on = c.ways.invariant.on k can in
    let ran = c.in_ok-done.ensures.ran k (record { sound = can.sound; ready = on.ready }) in
    stopped_open (words_of g.H.KeyHasher.hash_of k) k.task c.args.run.now c.ways.run c.feed.new.run c.ways.current c.args.pipelines.now.items c.in_ok-done.done ran c.if-done-gt0.true on.root)

pub returns-then-done-gt0-clause-fed : goal.returns-then-done-gt0-clause-fed
returns-then-done-gt0-clause-fed g c = λ k can. (
    let on = c.ways.invariant.on k can in
    let ran = c.in_ok-done.ensures.ran k (record { sound = can.sound; ready = on.ready }) in
    fed_leg (words_of g.H.KeyHasher.hash_of k) k.task c.args.first c.ways.current c.args.run.now c.ways.run c.feed.new.run c.args.pipelines.now.items c.args.fed.now.items c.ways.fed.items c.push.new.self.items c.in_ok-done.done on.fed ran c.in-Ok.ensures.items)

pub close-requires-clause-can : goal.close-requires-clause-can
close-requires-clause-can g c = λ κs lives. (
    let can = c.requires.can in
    let on = c.ways.invariant.on can.k can.is in
    let ran = c.in_ok-done.ensures.ran can.k (record { sound = can.is.sound; ready = on.ready }) in
    record { k = can.k; is = record { sound = can.is.sound; feeds = ran.feeds; at = ran.at; number = ran.number } })

pub close-requires-clause-last : goal.close-requires-clause-last
close-requires-clause-last g c = λ κs lives. (
    let can = c.requires.can in
    let on = c.ways.invariant.on can.k can.is in
    let ran = c.in_ok-done.ensures.ran can.k (record { sound = can.is.sound; ready = on.ready }) in
    let left = ran.left in
    let none = c.if-done-gt0.false in omega arith)

pub ways-preserved : goal.ways-preserved
ways-preserved g c =
    let most = most_of c.args.run.now.runner.context in
    let P : PExecutionContext → Type 0 = λ context. TakesPaced (most_of context) (rows_due_from c.ways.current.source) 0 (g.C.StopCheck.asked c.ways.stop) (g.C.StopCheck.asked c.feed.new.stop) in
    let paced = paced-then most _ _ 0 _ _ _ c.ways.invariant.paced (subst P c.ways.invariant.context c.in_ok-done.ensures.paced) in
    let kept = pace_then _ _ _ c.args.run.now.runner c.ways.run.runner c.feed.new.run.runner c.ways.invariant.context c.ways.invariant.kept c.in_ok-done.ensures.kept in
    record {
      on = λ k can. (
          let on = c.ways.invariant.on k can in
          let done = c.in_ok-done.done in
          let ran = c.in_ok-done.ensures.ran k (record { sound = can.sound; ready = on.ready }) in
          let N : Next PhysSource (Part g.row.H.Denot) → Type 0 = IsNext (words_of g.H.KeyHasher.hash_of k) k.task c.feed.new.run c.close.new.run c.args.pipelines.now.items (sink_of k.task done.at) in
          let next = subst N c.in-GoOn.is (c.in_ok-next.ensures.next k (record { sound = can.sound; feeds = ran.feeds; at = ran.at; number = ran.number })) in
          record {
            ready = next.0;
            root = went_on (words_of g.H.KeyHasher.hash_of k) k.task c.args.run.now c.ways.run c.feed.new.run c.close.new.run c.ways.current c.args.pipelines.now.items done ran next.2 next.3 on.root;
            fed = fed_goes k.task c.args.first c.in-GoOn.next c.args.run.now c.feed.new.run c.close.new.run c.args.fed.now.items c.push.new.self.items
                (fed_leg (words_of g.H.KeyHasher.hash_of k) k.task c.args.first c.ways.current c.args.run.now c.ways.run c.feed.new.run c.args.pipelines.now.items c.args.fed.now.items c.ways.fed.items c.push.new.self.items done on.fed ran c.in-Ok.ensures.items)
                next.4 next.5;
          });
      noted = λ k can v staged noted. (
          let on = c.ways.invariant.on k can in
          let done = c.in_ok-done.done in
          let ran = c.in_ok-done.ensures.ran k (record { sound = can.sound; ready = on.ready }) in
          let W : PExecutionContext → Type 0 = λ context. IsStagingOf k.settings k.task.m context.workers v in
          let now = subst W (sym c.ways.invariant.context) staged in
          let fed = c.in_ok-done.ensures.noted k (record { sound = can.sound; ready = on.ready }) v now (c.ways.invariant.noted k can v staged noted) in
          let then = c.in_ok-next.ensures.noted k (record { sound = can.sound; feeds = ran.feeds; at = ran.at; number = ran.number }) v (subst W (sym c.feed.ensures.context) now) fed in
          let T : Next PhysSource (Part g.row.H.Denot) → Type 0 = λ next. NotedThen c.close.new.run c.args.pipelines.now.items next k v in
          subst T c.in-GoOn.is then);
      asked = asked-made g.C.StopCheck 1 0 _ _ _ _ (omega arith) (asked-then g.C.StopCheck 0 1 1 _ _ _ _ _ (omega arith) c.ways.invariant.asked c.in_ok-done.ensures.asked);
      context = c.close.ensures.context ∙ c.feed.ensures.context ∙ c.ways.invariant.context;
      paced = paced-more most _ 0 _ _ _ (omega arith) paced;
      kept = pace_then _ _ _ c.args.run.now.runner c.feed.new.run.runner c.close.new.run.runner (c.feed.ensures.context ∙ c.ways.invariant.context) kept (c.in_ok-next.ensures.kept (g.C.StopCheck.asked c.feed.new.stop));
      opened = λ k can was. (
          let on = c.ways.invariant.on k can in
          let done = c.in_ok-done.done in
          let ran = c.in_ok-done.ensures.ran k (record { sound = can.sound; ready = on.ready }) in
          let alone = c.in_ok-done.ensures.alone k (record { sound = can.sound; ready = on.ready }) in
          closed_open k done c.ways.run c.feed.new.run c.ways.fed.items c.push.new.self.items on.ready.lines.numbered ran.number c.in_ok-done.ensures.lowered alone c.in-Ok.ensures.items (c.ways.invariant.opened k can was) c.close.new.run ran.feeds.fits.ordered c.in_ok-next.ensures.counts c.close.ensures.sinks);
      falls = λ n. (
          let before = c.ways.invariant.falls n in
          let fell = c.in_ok-done.ensures.lowered.none_rose n in
          let same = ap (λ (z : SinkCounts). number_at z.left.items n) c.in_ok-next.ensures.counts in
          omega (arith, before, fell, same));
    }

pub returns-in-Stay-clause-fed : goal.returns-in-Stay-clause-fed
returns-in-Stay-clause-fed g c = λ k can. (
    let on = c.ways.invariant.on k can in
    let done = c.in_ok-done.done in
    let ran = c.in_ok-done.ensures.ran k (record { sound = can.sound; ready = on.ready }) in
    let N : Next PhysSource (Part g.row.H.Denot) → Type 0 = IsNext (words_of g.H.KeyHasher.hash_of k) k.task c.feed.new.run c.close.new.run c.args.pipelines.now.items (sink_of k.task done.at) in
    let next = subst N c.in-Stay.is (c.in_ok-next.ensures.next k (record { sound = can.sound; feeds = ran.feeds; at = ran.at; number = ran.number })) in
    fed_stays k.task c.args.first c.args.run.now c.feed.new.run c.close.new.run c.args.fed.now.items c.push.new.self.items
    (fed_leg (words_of g.H.KeyHasher.hash_of k) k.task c.args.first c.ways.current c.args.run.now c.ways.run c.feed.new.run c.args.pipelines.now.items c.args.fed.now.items c.ways.fed.items c.push.new.self.items done on.fed ran c.in-Ok.ensures.items)
    next.3)

pub returns-in-Answer-clause-fed : goal.returns-in-Answer-clause-fed
returns-in-Answer-clause-fed g c = λ k can. (
    let on = c.ways.invariant.on k can in
    let done = c.in_ok-done.done in
    let ran = c.in_ok-done.ensures.ran k (record { sound = can.sound; ready = on.ready }) in
    let N : Next PhysSource (Part g.row.H.Denot) → Type 0 = IsNext (words_of g.H.KeyHasher.hash_of k) k.task c.feed.new.run c.close.new.run c.args.pipelines.now.items (sink_of k.task done.at) in
    let next = subst N c.in-Answer.is (c.in_ok-next.ensures.next k (record { sound = can.sound; feeds = ran.feeds; at = ran.at; number = ran.number })) in
    fed_stays k.task c.args.first c.args.run.now c.feed.new.run c.close.new.run c.args.fed.now.items c.push.new.self.items
    (fed_leg (words_of g.H.KeyHasher.hash_of k) k.task c.args.first c.ways.current c.args.run.now c.ways.run c.feed.new.run c.args.pipelines.now.items c.args.fed.now.items c.ways.fed.items c.push.new.self.items done on.fed ran c.in-Ok.ensures.items)
    next.2)

pub returns-in-Stay-clause-stopped : goal.returns-in-Stay-clause-stopped
returns-in-Stay-clause-stopped g c = λ k can. (
    let on = c.ways.invariant.on k can in
    let done = c.in_ok-done.done in
    let ran = c.in_ok-done.ensures.ran k (record { sound = can.sound; ready = on.ready }) in
    let N : Next PhysSource (Part g.row.H.Denot) → Type 0 = IsNext (words_of g.H.KeyHasher.hash_of k) k.task c.feed.new.run c.close.new.run c.args.pipelines.now.items (sink_of k.task done.at) in
    let next = subst N c.in-Stay.is (c.in_ok-next.ensures.next k (record { sound = can.sound; feeds = ran.feeds; at = ran.at; number = ran.number })) in
    record {
      between = next.0;
      root = went_on (words_of g.H.KeyHasher.hash_of k) k.task c.args.run.now c.ways.run c.feed.new.run c.close.new.run c.ways.current c.args.pipelines.now.items done ran next.1 next.2 on.root;
    })

pub returns-in-Answer-clause-stopped : goal.returns-in-Answer-clause-stopped
returns-in-Answer-clause-stopped g c = λ k can. (
    let on = c.ways.invariant.on k can in
    let done = c.in_ok-done.done in
    let ran = c.in_ok-done.ensures.ran k (record { sound = can.sound; ready = on.ready }) in
    let N : Next PhysSource (Part g.row.H.Denot) → Type 0 = IsNext (words_of g.H.KeyHasher.hash_of k) k.task c.feed.new.run c.close.new.run c.args.pipelines.now.items (sink_of k.task done.at) in
    let next = subst N c.in-Answer.is (c.in_ok-next.ensures.next k (record { sound = can.sound; feeds = ran.feeds; at = ran.at; number = ran.number })) in
    record { between = next.0; root = next.1 })

pub ways-smaller : goal.ways-smaller
ways-smaller g c =
    let can = c.requires.can in
    let k = can.k in
    let on = c.ways.invariant.on k can.is in
    let done = c.in_ok-done.done in
    let ran = c.in_ok-done.ensures.ran k (record { sound = can.is.sound; ready = on.ready }) in
    let N : Next PhysSource (Part g.row.H.Denot) → Type 0 = IsNext (words_of g.H.KeyHasher.hash_of k) k.task c.feed.new.run c.close.new.run c.args.pipelines.now.items (sink_of k.task done.at) in
    let next = subst N c.in-GoOn.is (c.in_ok-next.ensures.next k (record { sound = can.is.sound; feeds = ran.feeds; at = ran.at; number = ran.number })) in
    let leg = ran.moved.steps in
    let rest = next.1 in omega arith

pub returns-in_err-done-clause-asked : goal.returns-in_err-done-clause-asked
returns-in_err-done-clause-asked g c = asked_passed_then g.C.StopCheck 0 1 1 _ _ _ _ _ _ c.from_residual.ensures.1 c.ways.invariant.asked c.in_err-done.ensures.asked

pub returns-in_default-clause-asked : goal.returns-in_default-clause-asked
returns-in_default-clause-asked g c = asked-lost g.C.StopCheck 1 1 _ _ _ _ refl (asked-then g.C.StopCheck 0 1 1 _ _ _ _ _ (omega arith) c.ways.invariant.asked c.in_ok-done.ensures.asked)

pub returns-then-done-gt0-clause-asked : goal.returns-then-done-gt0-clause-asked
returns-then-done-gt0-clause-asked g c = asked-made g.C.StopCheck 1 1 _ _ _ _ (omega arith) (asked-then g.C.StopCheck 0 1 1 _ _ _ _ _ (omega arith) c.ways.invariant.asked c.in_ok-done.ensures.asked)

pub returns-in_err-next-clause-asked : goal.returns-in_err-next-clause-asked
returns-in_err-next-clause-asked g c = asked_lost g.C.StopCheck 1 1 _ _ _ _ _ c.from_residual-in_err-next.ensures.1 c.in_err-next.ensures.calm (asked-then g.C.StopCheck 0 1 1 _ _ _ _ _ (omega arith) c.ways.invariant.asked c.in_ok-done.ensures.asked)

pub returns-in-Stay-clause-asked : goal.returns-in-Stay-clause-asked
returns-in-Stay-clause-asked g c = asked-made g.C.StopCheck 1 1 _ _ _ _ (omega arith) (asked-then g.C.StopCheck 0 1 1 _ _ _ _ _ (omega arith) c.ways.invariant.asked c.in_ok-done.ensures.asked)

pub returns-in-Answer-clause-asked : goal.returns-in-Answer-clause-asked
returns-in-Answer-clause-asked g c = asked-made g.C.StopCheck 1 1 _ _ _ _ (omega arith) (asked-then g.C.StopCheck 0 1 1 _ _ _ _ _ (omega arith) c.ways.invariant.asked c.in_ok-done.ensures.asked)

pub returns-then-done-gt0-clause-paced : goal.returns-then-done-gt0-clause-paced
returns-then-done-gt0-clause-paced g c = (
    let most = most_of c.args.run.now.runner.context in
    let P : PExecutionContext → Type 0 = λ context. TakesPaced (most_of context) (rows_due_from c.ways.current.source) 0 (g.C.StopCheck.asked c.ways.stop) (g.C.StopCheck.asked c.feed.new.stop) in
    let paced = paced-then most _ _ 0 _ _ _ c.ways.invariant.paced (subst P c.ways.invariant.context c.in_ok-done.ensures.paced) in
    paced)

pub returns-in-Stay-clause-paced : goal.returns-in-Stay-clause-paced
returns-in-Stay-clause-paced g c = (
    let most = most_of c.args.run.now.runner.context in
    let P : PExecutionContext → Type 0 = λ context. TakesPaced (most_of context) (rows_due_from c.ways.current.source) 0 (g.C.StopCheck.asked c.ways.stop) (g.C.StopCheck.asked c.feed.new.stop) in
    let paced = paced-then most _ _ 0 _ _ _ c.ways.invariant.paced (subst P c.ways.invariant.context c.in_ok-done.ensures.paced) in
    paced)

pub returns-in-Answer-clause-paced : goal.returns-in-Answer-clause-paced
returns-in-Answer-clause-paced g c = (
    let most = most_of c.args.run.now.runner.context in
    let P : PExecutionContext → Type 0 = λ context. TakesPaced (most_of context) (rows_due_from c.ways.current.source) 0 (g.C.StopCheck.asked c.ways.stop) (g.C.StopCheck.asked c.feed.new.stop) in
    let paced = paced-then most _ _ 0 _ _ _ c.ways.invariant.paced (subst P c.ways.invariant.context c.in_ok-done.ensures.paced) in
    paced)

pub returns-in_err-done-clause-context : goal.returns-in_err-done-clause-context
returns-in_err-done-clause-context g c = c.feed.ensures.context ∙ c.ways.invariant.context

pub returns-in_default-clause-context : goal.returns-in_default-clause-context
returns-in_default-clause-context g c = c.feed.ensures.context ∙ c.ways.invariant.context

pub returns-then-done-gt0-clause-context : goal.returns-then-done-gt0-clause-context
returns-then-done-gt0-clause-context g c = c.feed.ensures.context ∙ c.ways.invariant.context

pub returns-in_err-next-clause-context : goal.returns-in_err-next-clause-context
returns-in_err-next-clause-context g c = c.close.ensures.context ∙ c.feed.ensures.context ∙ c.ways.invariant.context

pub returns-in-Stay-clause-context : goal.returns-in-Stay-clause-context
returns-in-Stay-clause-context g c = c.close.ensures.context ∙ c.feed.ensures.context ∙ c.ways.invariant.context

pub returns-in-Answer-clause-context : goal.returns-in-Answer-clause-context
returns-in-Answer-clause-context g c = c.close.ensures.context ∙ c.feed.ensures.context ∙ c.ways.invariant.context

pub returns-then-done-gt0-clause-frame : goal.returns-then-done-gt0-clause-frame
returns-then-done-gt0-clause-frame g c = λ k can. tt

pub returns-in-Stay-clause-frame : goal.returns-in-Stay-clause-frame
returns-in-Stay-clause-frame g c = λ k can. tt

pub returns-in-Answer-clause-frame : goal.returns-in-Answer-clause-frame
returns-in-Answer-clause-frame g c = λ k can. (
    let on = c.ways.invariant.on k can in
    let ran = c.in_ok-done.ensures.ran k (record { sound = can.sound; ready = on.ready }) in
    let N : Next PhysSource (Part g.row.H.Denot) → Type 0 = λ next. IsRootNext next k in
    subst N c.in-Answer.is (c.in_ok-next.ensures.frame k (record { sound = can.sound; feeds = ran.feeds; at = ran.at; number = ran.number })))

pub returns-then-done-gt0-clause-noted : goal.returns-then-done-gt0-clause-noted
returns-then-done-gt0-clause-noted g c = λ k can v staged noted. (
    let on = c.ways.invariant.on k can in
    let ran = c.in_ok-done.ensures.ran k (record { sound = can.sound; ready = on.ready }) in
    let W : PExecutionContext → Type 0 = λ context. IsStagingOf k.settings k.task.m context.workers v in
    let fed = c.in_ok-done.ensures.noted k (record { sound = can.sound; ready = on.ready }) v (subst W (sym c.ways.invariant.context) staged) (c.ways.invariant.noted k can v staged noted) in
    noted_open (words_of g.H.KeyHasher.hash_of k) k.task v c.ways.run c.feed.new.run c.ways.current c.args.pipelines.now.items c.in_ok-done.done (events_in c.feed.new.run.runner) ran c.if-done-gt0.true fed)

pub returns-in-Stay-clause-noted : goal.returns-in-Stay-clause-noted
returns-in-Stay-clause-noted g c = λ k can v staged noted. (
    let on = c.ways.invariant.on k can in
    let ran = c.in_ok-done.ensures.ran k (record { sound = can.sound; ready = on.ready }) in
    let W : PExecutionContext → Type 0 = λ context. IsStagingOf k.settings k.task.m context.workers v in
    let now = subst W (sym c.ways.invariant.context) staged in
    let fed = c.in_ok-done.ensures.noted k (record { sound = can.sound; ready = on.ready }) v now (c.ways.invariant.noted k can v staged noted) in
    let then = c.in_ok-next.ensures.noted k (record { sound = can.sound; feeds = ran.feeds; at = ran.at; number = ran.number }) v (subst W (sym c.feed.ensures.context) now) fed in
    let T : Next PhysSource (Part g.row.H.Denot) → Type 0 = λ next. NotedThen c.close.new.run c.args.pipelines.now.items next k v in
    subst T c.in-Stay.is then)

pub returns-in-Answer-clause-noted : goal.returns-in-Answer-clause-noted
returns-in-Answer-clause-noted g c = λ k can v staged noted. (
    let on = c.ways.invariant.on k can in
    let ran = c.in_ok-done.ensures.ran k (record { sound = can.sound; ready = on.ready }) in
    let W : PExecutionContext → Type 0 = λ context. IsStagingOf k.settings k.task.m context.workers v in
    let now = subst W (sym c.ways.invariant.context) staged in
    let fed = c.in_ok-done.ensures.noted k (record { sound = can.sound; ready = on.ready }) v now (c.ways.invariant.noted k can v staged noted) in
    let then = c.in_ok-next.ensures.noted k (record { sound = can.sound; feeds = ran.feeds; at = ran.at; number = ran.number }) v (subst W (sym c.feed.ensures.context) now) fed in
    let T : Next PhysSource (Part g.row.H.Denot) → Type 0 = λ next. NotedThen c.close.new.run c.args.pipelines.now.items next k v in
    subst T c.in-Answer.is then)

pub returns-in_err-done-clause-err : goal.returns-in_err-done-clause-err
returns-in_err-done-clause-err g c = err_same _ _ _ c.from_residual.ensures.1 (λ k can. limit_as k.task.m _ _ _ c.ways.invariant.context (c.in_err-done.ensures.err k (record { sound = can.sound; ready = (c.ways.invariant.on k can).ready })))

pub returns-in_default-clause-err : goal.returns-in_default-clause-err
returns-in_default-clause-err g c = λ k can. tt

pub returns-in_err-next-clause-err : goal.returns-in_err-next-clause-err
returns-in_err-next-clause-err g c = err_same _ _ _ c.from_residual-in_err-next.ensures.1 (λ k can. not_many k.task.m _ _ c.in_err-next.ensures.err)

pub returns-then-done-gt0-clause-kept : goal.returns-then-done-gt0-clause-kept
returns-then-done-gt0-clause-kept g c = pace_then _ _ _ c.args.run.now.runner c.ways.run.runner c.feed.new.run.runner c.ways.invariant.context c.ways.invariant.kept c.in_ok-done.ensures.kept

pub returns-in-Stay-clause-kept : goal.returns-in-Stay-clause-kept
returns-in-Stay-clause-kept g c =
    let kept = pace_then _ _ _ c.args.run.now.runner c.ways.run.runner c.feed.new.run.runner c.ways.invariant.context c.ways.invariant.kept c.in_ok-done.ensures.kept in
    pace_then _ _ _ c.args.run.now.runner c.feed.new.run.runner c.close.new.run.runner (c.feed.ensures.context ∙ c.ways.invariant.context) kept (c.in_ok-next.ensures.kept (g.C.StopCheck.asked c.feed.new.stop))

pub returns-in-Answer-clause-kept : goal.returns-in-Answer-clause-kept
returns-in-Answer-clause-kept g c =
    let kept = pace_then _ _ _ c.args.run.now.runner c.ways.run.runner c.feed.new.run.runner c.ways.invariant.context c.ways.invariant.kept c.in_ok-done.ensures.kept in
    pace_then _ _ _ c.args.run.now.runner c.feed.new.run.runner c.close.new.run.runner (c.feed.ensures.context ∙ c.ways.invariant.context) kept (c.in_ok-next.ensures.kept (g.C.StopCheck.asked c.feed.new.stop))

pub returns-then-done-gt0-clause-falls : goal.returns-then-done-gt0-clause-falls
returns-then-done-gt0-clause-falls g c = λ n. (let before = c.ways.invariant.falls n in let fell = c.in_ok-done.ensures.lowered.none_rose n in omega (arith, before, fell))

pub returns-in-Stay-clause-falls : goal.returns-in-Stay-clause-falls
returns-in-Stay-clause-falls g c = λ n. (let before = c.ways.invariant.falls n in let fell = c.in_ok-done.ensures.lowered.none_rose n in let same = ap (λ (z : SinkCounts). number_at z.left.items n) c.in_ok-next.ensures.counts in omega (arith, before, fell, same))

pub returns-in-Answer-clause-falls : goal.returns-in-Answer-clause-falls
returns-in-Answer-clause-falls g c = λ n. (let before = c.ways.invariant.falls n in let fell = c.in_ok-done.ensures.lowered.none_rose n in let same = ap (λ (z : SinkCounts). number_at z.left.items n) c.in_ok-next.ensures.counts in omega (arith, before, fell, same))

pub returns-then-done-gt0-clause-lowers : goal.returns-then-done-gt0-clause-lowers
returns-then-done-gt0-clause-lowers g c = λ k can. tt

pub returns-in-Stay-clause-lowers : goal.returns-in-Stay-clause-lowers
returns-in-Stay-clause-lowers g c = λ k can. tt

pub returns-in-Answer-clause-lowers : goal.returns-in-Answer-clause-lowers
returns-in-Answer-clause-lowers g c = λ k can. (
    let on = c.ways.invariant.on k can in
    let done = c.in_ok-done.done in
    let ran = c.in_ok-done.ensures.ran k (record { sound = can.sound; ready = on.ready }) in
    let R : Next PhysSource (Part g.row.H.Denot) → Type 0 = AnswersAt done.at in
    let root = subst R c.in-Answer.is c.in_ok-next.ensures.root in
    let n = k.task.number k.task.m.ordered in
    let number : done.count ≡ n = ran.number ∙ ap (λ (a : SinkAt). k.task.number (sink_of k.task a)) root in
    let here = c.in_ok-done.ensures.lowered.here in
    let was = ap (number_at c.ways.run.counts.left.items) number in
    let is = ap (number_at c.feed.new.run.counts.left.items) number in
    let fell = c.ways.invariant.falls n in
    let same = ap (λ (z : SinkCounts). number_at z.left.items n) c.in_ok-next.ensures.counts in
    omega (arith, here, was, is, fell, same))

pub returns-then-done-gt0-clause-opened : goal.returns-then-done-gt0-clause-opened
returns-then-done-gt0-clause-opened g c = λ k can was. (
    let on = c.ways.invariant.on k can in
    let done = c.in_ok-done.done in
    let ran = c.in_ok-done.ensures.ran k (record { sound = can.sound; ready = on.ready }) in
    let alone = c.in_ok-done.ensures.alone k (record { sound = can.sound; ready = on.ready }) in
    let left = ran.left in
    let some = c.if-done-gt0.true in
    left_open k done c.ways.run c.feed.new.run c.ways.fed.items c.push.new.self.items on.ready.lines.numbered ran.number c.in_ok-done.ensures.lowered alone c.in-Ok.ensures.items (c.ways.invariant.opened k can was) (omega (arith, left, some)))

pub returns-in-Stay-clause-opened : goal.returns-in-Stay-clause-opened
returns-in-Stay-clause-opened g c = λ k can was. (
    let on = c.ways.invariant.on k can in
    let done = c.in_ok-done.done in
    let ran = c.in_ok-done.ensures.ran k (record { sound = can.sound; ready = on.ready }) in
    let alone = c.in_ok-done.ensures.alone k (record { sound = can.sound; ready = on.ready }) in
    closed_open k done c.ways.run c.feed.new.run c.ways.fed.items c.push.new.self.items on.ready.lines.numbered ran.number c.in_ok-done.ensures.lowered alone c.in-Ok.ensures.items (c.ways.invariant.opened k can was) c.close.new.run ran.feeds.fits.ordered c.in_ok-next.ensures.counts c.close.ensures.sinks)

pub returns-in-Answer-clause-opened : goal.returns-in-Answer-clause-opened
returns-in-Answer-clause-opened g c = λ k can was. (
    let on = c.ways.invariant.on k can in
    let done = c.in_ok-done.done in
    let ran = c.in_ok-done.ensures.ran k (record { sound = can.sound; ready = on.ready }) in
    let alone = c.in_ok-done.ensures.alone k (record { sound = can.sound; ready = on.ready }) in
    closed_open k done c.ways.run c.feed.new.run c.ways.fed.items c.push.new.self.items on.ready.lines.numbered ran.number c.in_ok-done.ensures.lowered alone c.in-Ok.ensures.items (c.ways.invariant.opened k can was) c.close.new.run ran.feeds.fits.ordered c.in_ok-next.ensures.counts c.close.ensures.sinks)
