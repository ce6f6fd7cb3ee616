use Rattle.std.proofs.Common.{ℕ, List, subst, sym, refl, Some}
use Rattle.std.specs.List.{AllByRecursion}
use Rattle.pipe_ops.specs.declared.sink.FinalizedSink.{FinalizedSink}
use Rattle.pipe_source.specs.declared.phys_source.PhysSource.{PhysSource}
use Rattle.pipe_engine.specs.Engine.{Fits, brings_of, engine_words}
use Rattle.pipe_engine.specs.Finished.{EndsAsRoot}
use Rattle.pipe_engine.specs.Known.{words_of}
use Rattle.pipe_engine.specs.Stands.{Settings}
use Rattle.pipe_driver.specs.Runner.{Finalizes, MayFinish}
use Rattle.pipe_driver.specs.Meaning.{Meaning}
use Rattle.pipe_driver.proofs.Drives.{run_with}
use Rattle.pipe_driver.specs.Runs.{Unparks, StartsElsewhere}
use Rattle.pipe_engine.proofs.Pacing.{pace_closed}
use Rattle.pipe_engine.proofs.Closings.{close_root, close_build, close_alone, close_sort}
use Rattle.pipe_engine.proofs.Lowering.{closed_root}
use Rattle.pipe_engine.proofs.Mays.{may_finish}
use Rattle.pipe_engine.proofs.Breaking.{err_same}
use Rattle.pipe_engine.proofs.Asked.{stops_passed}
use Rattle.pipe_events.specs.Worlds.{Event}
use Rattle.pipe_engine.specs.Noted.{NotedBetween, NotedBefore}
use Rattle.pipe_engine.specs.Journals.{events_in, EndsAsOne}
use Rattle.pipe_engine.proofs.Noted.{noted_closed}
use Rattle.pipe_engine.proofs.Turning.{noted_sort}
use Rattle.pipe_engine.proofs.driving.close.Goals as goal

pub close_place-requires-clause-idle : goal.close_place-requires-clause-idle
close_place-requires-clause-idle g c = λ κs lives. c.requires.can.is.feeds.idle

pub close_place-requires-clause-may : goal.close_place-requires-clause-may
close_place-requires-clause-may g c = λ κs lives. (
    let can = c.requires.can in
    let k = can.k in
    record { x = k.settings; m = k.task.m; may = may_finish (words_of g.H.KeyHasher.hash_of k) k.task c.args.run.now c.args.fed.at c.args.fed.count c.args.pipelines.now.items can.is.feeds c.requires.last can.is.at can.is.number })

pub returns-in-Finished-clause-next : goal.returns-in-Finished-clause-next
returns-in-Finished-clause-next g c = λ k can. (
    let F : FinalizedSink (Unit {0}) PhysSource → Type 0 = λ r. (x : Settings _) → Finalizes (brings_of x) c.args.fed.at (Fits g.H.KeyHasher.hash_of c.args.run.now.runner x) (Fits g.H.KeyHasher.hash_of c.close_place.new.engine x) r in
    close_root (words_of g.H.KeyHasher.hash_of k) k.task c.args.run.now c.close_place.new.engine c.args.fed.at c.args.fed.count c.in-Finished.frame c.args.pipelines.now.items can.sound can.feeds c.requires.last can.at can.number
    (subst F c.in-Finished.is c.in_ok-frame.ensures.finished k.settings) c.in_ok-frame.ensures.idle)

pub returns-in-Operator-clause-next : goal.returns-in-Operator-clause-next
returns-in-Operator-clause-next g c = λ k can. (
    let F : FinalizedSink (Unit {0}) PhysSource → Type 0 = λ r. (x : Settings _) → Finalizes (brings_of x) c.args.fed.at (Fits g.H.KeyHasher.hash_of c.args.run.now.runner x) (Fits g.H.KeyHasher.hash_of c.close_place.new.engine x) r in
    close_build (words_of g.H.KeyHasher.hash_of k) k.task c.args.run.now c.close_place.new.engine c.args.fed.at c.args.fed.count c.in-Operator.field-0 c.args.pipelines.now.items can.sound can.feeds c.requires.last can.at can.number
    (subst F c.in-Operator.is c.in_ok-frame.ensures.finished k.settings) c.in_ok-frame.ensures.idle)

pub returns-in-Some-clause-next : goal.returns-in-Some-clause-next
returns-in-Some-clause-next g c = λ k can. (
    let F : FinalizedSink (Unit {0}) PhysSource → Type 0 = λ r. (x : Settings _) → Finalizes (brings_of x) c.args.fed.at (Fits g.H.KeyHasher.hash_of c.args.run.now.runner x) (Fits g.H.KeyHasher.hash_of c.close_place.new.engine x) r in
    let U : ℕ → Type 0 = λ n. Unparks n c.in-Some.waiting c.args.run.now.parked.items c.unpark.new.parked.items in
    close_sort (words_of g.H.KeyHasher.hash_of k) k.task c.args.run.now c.close_place.new.engine c.unpark.new.parked c.args.fed.at c.args.fed.count c.in-Source.source c.in-Some.waiting c.args.pipelines.now.items can.sound can.feeds c.requires.last can.at can.number
    (subst F c.in-Source.is c.in_ok-frame.ensures.finished k.settings) c.in_ok-frame.ensures.idle (subst U c.node_at.ensures c.in-Some.ensures.some))

pub returns-in-None-clause-next : goal.returns-in-None-clause-next
returns-in-None-clause-next g c = λ k can. (
    let F : FinalizedSink (Unit {0}) PhysSource → Type 0 = λ r. (x : Settings _) → Finalizes (brings_of x) c.args.fed.at (Fits g.H.KeyHasher.hash_of c.args.run.now.runner x) (Fits g.H.KeyHasher.hash_of c.close_place.new.engine x) r in
    let E : ℕ → Type 0 = λ n. AllByRecursion (StartsElsewhere n) c.unpark.new.parked.items in
    close_alone (words_of g.H.KeyHasher.hash_of k) k.task c.args.run.now c.close_place.new.engine c.unpark.new.parked c.args.fed.at c.args.fed.count c.in-Source.source c.args.pipelines.now.items can.sound can.feeds c.requires.last can.at can.number
    (subst F c.in-Source.is c.in_ok-frame.ensures.finished k.settings) c.in_ok-frame.ensures.idle c.in-None.ensures.none.0 (subst E c.node_at.ensures c.in-None.ensures.none.1))

pub returns-in_err-frame-clause-calm : goal.returns-in_err-frame-clause-calm
returns-in_err-frame-clause-calm g c = stops_passed _ _ c.from_residual.ensures.1 c.in_err-frame.ensures.calm

pub returns-in_err-frame-clause-context : goal.returns-in_err-frame-clause-context
returns-in_err-frame-clause-context g c = c.close_place.ensures.context

pub returns-in-Finished-clause-context : goal.returns-in-Finished-clause-context
returns-in-Finished-clause-context g c = c.close_place.ensures.context

pub returns-in-Operator-clause-context : goal.returns-in-Operator-clause-context
returns-in-Operator-clause-context g c = c.close_place.ensures.context

pub returns-in-Some-clause-context : goal.returns-in-Some-clause-context
returns-in-Some-clause-context g c = c.close_place.ensures.context

pub returns-in-None-clause-context : goal.returns-in-None-clause-context
returns-in-None-clause-context g c = c.close_place.ensures.context

pub returns-in-Finished-clause-frame : goal.returns-in-Finished-clause-frame
returns-in-Finished-clause-frame g c = λ k can. (
    let F : FinalizedSink (Unit {0}) PhysSource → Type 0 = λ r. (x : Settings _) (m : Meaning) → MayFinish (engine_words g.H.KeyHasher.hash_of x) m c.args.run.now.runner c.args.fed.at → EndsAsRoot x r in
    subst F c.in-Finished.is c.in_ok-frame.ensures.frame k.settings k.task.m (may_finish (words_of g.H.KeyHasher.hash_of k) k.task c.args.run.now c.args.fed.at c.args.fed.count c.args.pipelines.now.items can.feeds c.requires.last can.at can.number))

pub returns-in-Operator-clause-frame : goal.returns-in-Operator-clause-frame
returns-in-Operator-clause-frame g c = λ k can. tt

pub returns-in-Some-clause-frame : goal.returns-in-Some-clause-frame
returns-in-Some-clause-frame g c = λ k can. tt

pub returns-in-None-clause-frame : goal.returns-in-None-clause-frame
returns-in-None-clause-frame g c = λ k can. tt

pub returns-in-Finished-clause-noted : goal.returns-in-Finished-clause-noted
returns-in-Finished-clause-noted g c = λ k can v staged noted. (
    let N : List Event → Type 0 = NotedBetween v k.task (run_with c.close_place.new.engine c.args.run.now.parked c.args.run.now.counts c.args.run.now.probers) c.args.pipelines.now.items in
    subst N (sym c.in_ok-frame.ensures.wrote)
    (noted_closed (words_of g.H.KeyHasher.hash_of k) k.task v c.args.run.now c.close_place.new.engine c.args.run.now.parked c.args.fed.at c.args.fed.count c.args.pipelines.now.items (events_in c.args.run.now.runner) staged.board can.feeds c.requires.last can.at can.number refl noted))

pub returns-in-Operator-clause-noted : goal.returns-in-Operator-clause-noted
returns-in-Operator-clause-noted g c = λ k can v staged noted. (
    let N : List Event → Type 0 = NotedBetween v k.task (run_with c.close_place.new.engine c.args.run.now.parked c.args.run.now.counts c.args.run.now.probers) c.args.pipelines.now.items in
    subst N (sym c.in_ok-frame.ensures.wrote)
    (noted_closed (words_of g.H.KeyHasher.hash_of k) k.task v c.args.run.now c.close_place.new.engine c.args.run.now.parked c.args.fed.at c.args.fed.count c.args.pipelines.now.items (events_in c.args.run.now.runner) staged.board can.feeds c.requires.last can.at can.number refl noted))

pub returns-in-None-clause-noted : goal.returns-in-None-clause-noted
returns-in-None-clause-noted g c = λ k can v staged noted. (
    let N : List Event → Type 0 = NotedBetween v k.task (run_with c.close_place.new.engine c.unpark.new.parked c.args.run.now.counts c.args.run.now.probers) c.args.pipelines.now.items in
    subst N (sym c.in_ok-frame.ensures.wrote)
    (noted_closed (words_of g.H.KeyHasher.hash_of k) k.task v c.args.run.now c.close_place.new.engine c.unpark.new.parked c.args.fed.at c.args.fed.count c.args.pipelines.now.items (events_in c.args.run.now.runner) staged.board can.feeds c.requires.last can.at can.number c.in-None.ensures.none.0 noted))

pub returns-in-Some-clause-noted : goal.returns-in-Some-clause-noted
returns-in-Some-clause-noted g c = λ k can v staged noted. (
    let F : FinalizedSink (Unit {0}) PhysSource → Type 0 = λ r. (x : Settings _) → Finalizes (brings_of x) c.args.fed.at (Fits g.H.KeyHasher.hash_of c.args.run.now.runner x) (Fits g.H.KeyHasher.hash_of c.close_place.new.engine x) r in
    let U : ℕ → Type 0 = λ n. Unparks n c.in-Some.waiting c.args.run.now.parked.items c.unpark.new.parked.items in
    let N : List Event → Type 0 = NotedBefore v k.task (run_with c.close_place.new.engine c.unpark.new.parked c.args.run.now.counts c.args.run.now.probers) (record { start = c.in-Some.waiting.start; source = Some c.in-Source.source; legs = c.in-Some.waiting.legs }) c.args.pipelines.now.items in
    subst N (sym c.in_ok-frame.ensures.wrote)
    (noted_sort g.H.KeyHasher.hash_of k.settings k.task v c.args.run.now.runner.context.workers c.args.run.now c.close_place.new.engine c.unpark.new.parked c.args.fed.at c.args.fed.count c.in-Source.source c.in-Some.waiting c.args.pipelines.now.items (events_in c.args.run.now.runner) staged can.sound can.feeds c.requires.last can.at can.number
    (subst F c.in-Source.is c.in_ok-frame.ensures.finished k.settings) (subst EndsAsOne c.in-Source.is c.in_ok-frame.ensures.one) (subst U c.node_at.ensures c.in-Some.ensures.some) noted))

pub returns-in_err-frame-clause-err : goal.returns-in_err-frame-clause-err
returns-in_err-frame-clause-err g c = err_same _ _ _ c.from_residual.ensures.1 c.in_err-frame.ensures.err

pub returns-in-Finished-clause-kept : goal.returns-in-Finished-clause-kept
returns-in-Finished-clause-kept g c = λ asked. pace_closed c.args.fed.at asked c.args.run.now.runner c.close_place.new.engine c.in_ok-frame.ensures.wrote

pub returns-in-Operator-clause-kept : goal.returns-in-Operator-clause-kept
returns-in-Operator-clause-kept g c = λ asked. pace_closed c.args.fed.at asked c.args.run.now.runner c.close_place.new.engine c.in_ok-frame.ensures.wrote

pub returns-in-Some-clause-kept : goal.returns-in-Some-clause-kept
returns-in-Some-clause-kept g c = λ asked. pace_closed c.args.fed.at asked c.args.run.now.runner c.close_place.new.engine c.in_ok-frame.ensures.wrote

pub returns-in-None-clause-kept : goal.returns-in-None-clause-kept
returns-in-None-clause-kept g c = λ asked. pace_closed c.args.fed.at asked c.args.run.now.runner c.close_place.new.engine c.in_ok-frame.ensures.wrote

pub returns-in-Finished-clause-root : goal.returns-in-Finished-clause-root
returns-in-Finished-clause-root g c = (
    let can = c.requires.can in
    let k = can.k in
    let F : FinalizedSink (Unit {0}) PhysSource → Type 0 = λ r. (x : Settings _) → Finalizes (brings_of x) c.args.fed.at (Fits g.H.KeyHasher.hash_of c.args.run.now.runner x) (Fits g.H.KeyHasher.hash_of c.close_place.new.engine x) r in
    closed_root (words_of g.H.KeyHasher.hash_of k) k.task c.args.run.now c.close_place.new.engine c.args.fed.at c.args.fed.count c.in-Finished.frame c.args.pipelines.now.items can.is.feeds c.requires.last can.is.at can.is.number
    (subst F c.in-Finished.is c.in_ok-frame.ensures.finished k.settings))

pub returns-in_err-frame-clause-sinks : goal.returns-in_err-frame-clause-sinks
returns-in_err-frame-clause-sinks g c = c.close_place.ensures.sinks

pub returns-in-Finished-clause-sinks : goal.returns-in-Finished-clause-sinks
returns-in-Finished-clause-sinks g c = c.close_place.ensures.sinks

pub returns-in-Operator-clause-sinks : goal.returns-in-Operator-clause-sinks
returns-in-Operator-clause-sinks g c = c.close_place.ensures.sinks

pub returns-in-Some-clause-sinks : goal.returns-in-Some-clause-sinks
returns-in-Some-clause-sinks g c = c.close_place.ensures.sinks

pub returns-in-None-clause-sinks : goal.returns-in-None-clause-sinks
returns-in-None-clause-sinks g c = c.close_place.ensures.sinks
