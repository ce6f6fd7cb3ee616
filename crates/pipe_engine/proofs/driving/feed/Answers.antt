use Rattle.std.proofs.Common.{List, ℕ, map, ap, sym, subst, arith, ◌∙◌}
use Rattle.pipe_engine.specs.Paced.{most_of}
use Rattle.pipe_engine.specs.Known.{words_of}
use Rattle.pipe_driver.specs.Runs.{Passes}
use Rattle.pipe_engine.proofs.Driven.{leg_runs}
use Rattle.pipe_engine.proofs.Feeds.{sink_some, has_run}
use Rattle.pipe_engine.proofs.Lowering.{lowered_by}
use Rattle.pipe_engine.proofs.Breaking.{err_same}
use Rattle.pipe_engine.proofs.Tellings.{end_tells, limit_as}
use Rattle.pipe_engine.proofs.Mays.{may_end}
use Rattle.pipe_engine.proofs.Asked.{asked-made, asked-then, asked_passed, asked_passed_then}
use Rattle.pipe_engine.proofs.Pacing.{pace_asked, pace_then}
use Rattle.pipe_engine.proofs.Paces.{paced-asked, paced-then}
use Rattle.pipe_events.specs.EventValues.{event_value}
use Rattle.pipe_events.specs.Worlds.{Event}
use Rattle.pipe_ops.specs.declared.context.PExecutionContext.{PExecutionContext}
use Rattle.pipe_driver.proofs.Drives.{run_with}
use Rattle.pipe_engine.specs.Noted.{IsStagingOf, NotedFed}
use Rattle.pipe_engine.specs.Journals.{events_in}
use Rattle.pipe_engine.proofs.Noted.{noted_fed}
use Rattle.pipe_engine.proofs.OpenSinks.{fed_alone}
use Rattle.pipe_engine.proofs.driving.feed.Goals as goal

pub pass-requires-clause-idle : goal.pass-requires-clause-idle
pass-requires-clause-idle g c = λ κs lives. c.requires.idle

pub pass-requires-clause-can : goal.pass-requires-clause-can
pass-requires-clause-can g c = λ κs lives. c.requires.can

pub leave_all-requires-clause-runs : goal.leave_all-requires-clause-runs
leave_all-requires-clause-runs g c = λ κs lives. (
    let can = c.requires.can in
    let leg = c.in_ok-leg.leg in
    leg_runs c.pass.new.run.runner leg.operators.items leg.at (c.in_ok-leg.ensures.led can.k can.is).passes.before)

pub leave_all-requires-clause-can : goal.leave_all-requires-clause-can
leave_all-requires-clause-can g c = λ κs lives. (
    let can = c.requires.can in
    let k = can.k in
    let Q : List ℕ → Type 0 = λ ops. Passes (words_of g.H.KeyHasher.hash_of k) k.task c.pass.new.run ops c.in_ok-leg.leg.at c.args.pipelines.now.items in
    record { k = k; is = record { sound = can.is.sound; passes = subst Q (sym c.as_slice.ensures.value) (c.in_ok-leg.ensures.led k can.is).passes } })

pub lower-left-requires : goal.lower-left-requires
lower-left-requires g c =
    let can = c.requires.can in
    let k = can.k in
    let leg = c.in_ok-leg.leg in
    let led = c.in_ok-leg.ensures.led k can.is in
    let Q : List ℕ → Type 0 = λ ops. Passes (words_of g.H.KeyHasher.hash_of k) k.task c.pass.new.run ops leg.at c.args.pipelines.now.items in
    let passes = c.in_ok-leave_all.ensures.passes k (record { sound = can.is.sound; passes = subst Q (sym c.as_slice.ensures.value) led.passes }) in
    record { some = sink_some (words_of g.H.KeyHasher.hash_of k) k.task c.leave_all.new.run leg.at leg.count c.args.pipelines.now.items passes led.number }

pub end_leg-requires-clause-runs : goal.end_leg-requires-clause-runs
end_leg-requires-clause-runs g c = λ κs lives. (
    let can = c.requires.can in
    let k = can.k in
    let leg = c.in_ok-leg.leg in
    let Q : List ℕ → Type 0 = λ ops. Passes (words_of g.H.KeyHasher.hash_of k) k.task c.pass.new.run ops leg.at c.args.pipelines.now.items in
    let passes = c.in_ok-leave_all.ensures.passes k (record { sound = can.is.sound; passes = subst Q (sym c.as_slice.ensures.value) (c.in_ok-leg.ensures.led k can.is).passes }) in
    leg_runs c.leave_all.new.run.runner _ leg.at passes.before)

pub end_leg-requires-clause-may : goal.end_leg-requires-clause-may
end_leg-requires-clause-may g c = λ κs lives. (
    let can = c.requires.can in
    let k = can.k in
    let leg = c.in_ok-leg.leg in
    let Q : List ℕ → Type 0 = λ ops. Passes (words_of g.H.KeyHasher.hash_of k) k.task c.pass.new.run ops leg.at c.args.pipelines.now.items in
    let passes = c.in_ok-leave_all.ensures.passes k (record { sound = can.is.sound; passes = subst Q (sym c.as_slice.ensures.value) (c.in_ok-leg.ensures.led k can.is).passes }) in
    record { x = k.settings; m = k.task.m; may = may_end (words_of g.H.KeyHasher.hash_of k) k.task c.leave_all.new.run leg.at c.args.pipelines.now.items passes })

pub returns-clause-ran : goal.returns-clause-ran
returns-clause-ran g c = λ k can. (
    let leg = c.in_ok-leg.leg in
    let led = c.in_ok-leg.ensures.led k can in
    let Q : List ℕ → Type 0 = λ ops. Passes (words_of g.H.KeyHasher.hash_of k) k.task c.pass.new.run ops leg.at c.args.pipelines.now.items in
    let passes = c.in_ok-leave_all.ensures.passes k (record { sound = can.sound; passes = subst Q (sym c.as_slice.ensures.value) led.passes }) in
    has_run (words_of g.H.KeyHasher.hash_of k) k.task c.args.current c.args.run.now c.pass.new.run c.leave_all.new.run c.end_leg.new.engine c.lower-left.new.self c.args.pipelines.now.items leg c.lower-left.result
    can.sound led passes c.in_ok-leave_all.ensures.parked c.in_ok-leave_all.ensures.counts (c.in_ok-end_leg.ensures.ended k.settings) c.lower-left.ensures.length
    (record { here = c.lower-left.ensures.here; all = c.lower-left.ensures.all }))

pub returns-in_err-leg-clause-asked : goal.returns-in_err-leg-clause-asked
returns-in_err-leg-clause-asked g c = asked_passed g.C.StopCheck 0 1 _ _ _ _ c.from_residual.ensures.1 c.in_err-leg.ensures.asked

pub returns-in_err-leave_all-clause-asked : goal.returns-in_err-leave_all-clause-asked
returns-in_err-leave_all-clause-asked g c = asked_passed_then g.C.StopCheck 0 0 1 _ _ _ _ _ _ c.from_residual-in_err-leave_all.ensures.1 c.in_ok-leg.ensures.asked c.in_err-leave_all.ensures.asked

pub returns-in_err-end_leg-clause-asked : goal.returns-in_err-end_leg-clause-asked
returns-in_err-end_leg-clause-asked g c = asked_passed_then g.C.StopCheck 0 1 1 _ _ _ _ _ _ c.from_residual-in_err-end_leg.ensures.1 (asked-then g.C.StopCheck 0 0 0 _ _ _ _ _ (omega arith) c.in_ok-leg.ensures.asked c.in_ok-leave_all.ensures.asked) c.in_err-end_leg.ensures.asked

pub returns-clause-asked : goal.returns-clause-asked
returns-clause-asked g c = asked-made g.C.StopCheck 1 1 _ _ _ _ (omega arith) (asked-then g.C.StopCheck 0 1 1 _ _ _ _ _ (omega arith) (asked-then g.C.StopCheck 0 0 0 _ _ _ _ _ (omega arith) c.in_ok-leg.ensures.asked c.in_ok-leave_all.ensures.asked) c.in_ok-end_leg.ensures.asked)

pub returns-clause-paced : goal.returns-clause-paced
returns-clause-paced g c = (
    let most = most_of c.args.run.now.runner.context in
    paced-then most _ 0 0 _ _ _ c.in_ok-leg.ensures.paced (paced-then most 0 0 0 _ _ _ (paced-asked 0 most 0 _ _ c.in_ok-leave_all.ensures.asked.asked) (paced-asked 1 most 0 _ _ c.in_ok-end_leg.ensures.asked.asked)))

pub returns-in_err-leg-clause-context : goal.returns-in_err-leg-clause-context
returns-in_err-leg-clause-context g c = c.pass.ensures.context

pub returns-in_err-leave_all-clause-context : goal.returns-in_err-leave_all-clause-context
returns-in_err-leave_all-clause-context g c = c.leave_all.ensures.context ∙ c.pass.ensures.context

pub returns-in_err-end_leg-clause-context : goal.returns-in_err-end_leg-clause-context
returns-in_err-end_leg-clause-context g c = c.end_leg.ensures.context ∙ c.leave_all.ensures.context ∙ c.pass.ensures.context

pub returns-clause-context : goal.returns-clause-context
returns-clause-context g c = c.end_leg.ensures.context ∙ c.leave_all.ensures.context ∙ c.pass.ensures.context

pub returns-clause-noted : goal.returns-clause-noted
returns-clause-noted g c = λ k can v staged noted. (
    let leg = c.in_ok-leg.leg in
    let led = c.in_ok-leg.ensures.led k can in
    let W : PExecutionContext → Type 0 = λ context. IsStagingOf k.settings k.task.m context.workers v in
    let Q : List ℕ → Type 0 = λ ops. Passes (words_of g.H.KeyHasher.hash_of k) k.task c.pass.new.run ops leg.at c.args.pipelines.now.items in
    let passes = c.in_ok-leave_all.ensures.passes k (record { sound = can.sound; passes = subst Q (sym c.as_slice.ensures.value) led.passes }) in
    let left = c.in_ok-leave_all.ensures.noted k (record { sound = can.sound; passes = subst Q (sym c.as_slice.ensures.value) led.passes }) v (subst W (sym c.pass.ensures.context) staged) (c.in_ok-leg.ensures.noted k can v staged noted) in
    let N : List Event → Type 0 = NotedFed v k.task (run_with c.end_leg.new.engine c.leave_all.new.run.parked c.lower-left.new.self c.leave_all.new.run.probers) leg.at c.args.pipelines.now.items in
    subst N (sym (ap (λ j. map event_value j.items) c.in_ok-end_leg.ensures.wrote))
    (noted_fed (words_of g.H.KeyHasher.hash_of k) k.task v c.leave_all.new.run c.end_leg.new.engine c.lower-left.new.self c.args.pipelines.now.items leg.at leg.count c.lower-left.result (events_in c.leave_all.new.run.runner) passes led.number
    (record { here = c.lower-left.ensures.here; all = c.lower-left.ensures.all }) left))

pub returns-in_err-leg-clause-err : goal.returns-in_err-leg-clause-err
returns-in_err-leg-clause-err g c = err_same _ _ _ c.from_residual.ensures.1 c.in_err-leg.ensures.err

pub returns-in_err-leave_all-clause-err : goal.returns-in_err-leave_all-clause-err
returns-in_err-leave_all-clause-err g c = err_same _ _ _ c.from_residual-in_err-leave_all.ensures.1 (λ k can. (
    let leg = c.in_ok-leg.leg in
    let Q : List ℕ → Type 0 = λ ops. Passes (words_of g.H.KeyHasher.hash_of k) k.task c.pass.new.run ops leg.at c.args.pipelines.now.items in
    limit_as k.task.m _ _ _ c.pass.ensures.context (c.in_err-leave_all.ensures.err k (record { sound = can.sound; passes = subst Q (sym c.as_slice.ensures.value) (c.in_ok-leg.ensures.led k can).passes }))))

pub returns-in_err-end_leg-clause-err : goal.returns-in_err-end_leg-clause-err
returns-in_err-end_leg-clause-err g c = err_same _ _ _ c.from_residual-in_err-end_leg.ensures.1 (λ k can. (
    let leg = c.in_ok-leg.leg in
    let Q : List ℕ → Type 0 = λ ops. Passes (words_of g.H.KeyHasher.hash_of k) k.task c.pass.new.run ops leg.at c.args.pipelines.now.items in
    let passes = c.in_ok-leave_all.ensures.passes k (record { sound = can.sound; passes = subst Q (sym c.as_slice.ensures.value) (c.in_ok-leg.ensures.led k can).passes }) in
    limit_as k.task.m _ _ _ (c.leave_all.ensures.context ∙ c.pass.ensures.context) (end_tells (words_of g.H.KeyHasher.hash_of k) k.task c.leave_all.new.run leg.at c.args.pipelines.now.items _ _ can.sound passes (c.in_err-end_leg.ensures.err k.settings))))

pub returns-clause-kept : goal.returns-clause-kept
returns-clause-kept g c =
    let first = c.args.run.now.runner in
    let led = c.pass.new.run.runner in
    let left = c.leave_all.new.run.runner in
    let ended = c.end_leg.new.engine in
    pace_then _ _ _ first left ended (c.leave_all.ensures.context ∙ c.pass.ensures.context)
    (pace_then _ _ _ first led left c.pass.ensures.context c.in_ok-leg.ensures.kept c.in_ok-leave_all.ensures.kept)
    (pace_asked 1 _ _ left ended c.in_ok-end_leg.ensures.wrote c.in_ok-end_leg.ensures.asked.asked)

pub returns-clause-lowered : goal.returns-clause-lowered
returns-clause-lowered g c =
    let can = c.requires.can in
    lowered_by c.args.run.now.counts c.leave_all.new.run.counts c.lower-left.new.self (record { at = c.in_ok-leg.leg.at; count = c.in_ok-leg.leg.count; left = c.lower-left.result }) c.lower-left.result
    (c.in_ok-leave_all.ensures.counts ∙ (c.in_ok-leg.ensures.led can.k can.is).counts) c.lower-left.ensures.here c.lower-left.ensures.all

pub returns-clause-alone : goal.returns-clause-alone
returns-clause-alone g c = λ k can. (
    let leg = c.in_ok-leg.leg in
    let led = c.in_ok-leg.ensures.led k can in
    let Q : List ℕ → Type 0 = λ ops. Passes (words_of g.H.KeyHasher.hash_of k) k.task c.pass.new.run ops leg.at c.args.pipelines.now.items in
    let passes = c.in_ok-leave_all.ensures.passes k (record { sound = can.sound; passes = subst Q (sym c.as_slice.ensures.value) led.passes }) in
    fed_alone k leg.at c.args.run.now c.pass.new.run c.leave_all.new.run (run_with c.end_leg.new.engine c.leave_all.new.run.parked c.lower-left.new.self c.leave_all.new.run.probers)
    c.pass.ensures.sinks c.leave_all.ensures.sinks passes.fits.ordered (c.in_ok-end_leg.ensures.sinks leg.at passes.before))
