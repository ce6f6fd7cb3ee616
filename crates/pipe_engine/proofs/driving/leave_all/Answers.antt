use Rattle.std.proofs.Common.{◌+◌, List, ℕ, refl, subst, sym, arith, ◌∙◌}
use Rattle.pipe_ops.specs.declared.context.PExecutionContext.{PExecutionContext}
use Rattle.pipe_engine.specs.Noted.{IsStagingOf}
use Rattle.std.proofs.lemmas.List.{drop_all}
use Rattle.pipe_engine.specs.Known.{words_of}
use Rattle.pipe_driver.specs.Runs.{Passes}
use Rattle.pipe_engine.proofs.Pacing.{pace_none, pace_then}
use Rattle.pipe_engine.proofs.Breaking.{err_same}
use Rattle.pipe_engine.proofs.Tellings.{limit_as}
use Rattle.pipe_engine.proofs.Asked.{asked-ok, asked-made, asked-then, asked_passed_then}
use Rattle.pipe_engine.proofs.driving.leave_all.Goals as goal

pub loop-place-init : goal.loop-place-init
loop-place-init g c = record { passes = λ k can. can.passes; noted = λ k can v staged noted. noted; parked = refl; counts = refl; asked = asked-ok g.C.StopCheck _ _; kept = pace_none _ c.args.run.now.runner; context = refl; sinks = refl }

pub leave-requires-clause-can : goal.leave-requires-clause-can
leave-requires-clause-can g c = λ κs lives. (
    let can = c.requires.can in
    record { k = can.k; is = record { sound = can.is.sound; passes = c.loop-place.invariant.passes can.k can.is } })

pub loop-place-preserved : goal.loop-place-preserved
loop-place-preserved g c = record {
  passes = λ k can. c.in_ok-leave.ensures.passes k (record { sound = can.sound; passes = c.loop-place.invariant.passes k can });
  noted = λ k can v staged noted. (
      let W : PExecutionContext → Type 0 = λ context. IsStagingOf k.settings k.task.m context.workers v in
      c.in_ok-leave.ensures.noted k (record { sound = can.sound; passes = c.loop-place.invariant.passes k can }) v (subst W (sym c.loop-place.invariant.context) staged) (c.loop-place.invariant.noted k can v staged noted));
  parked = c.in_ok-leave.ensures.parked ∙ c.loop-place.invariant.parked;
  counts = c.in_ok-leave.ensures.counts ∙ c.loop-place.invariant.counts;
  asked = asked-made g.C.StopCheck 0 0 _ _ _ _ (omega arith) (asked-then g.C.StopCheck 0 0 0 _ _ _ _ _ (omega arith) c.loop-place.invariant.asked c.in_ok-leave.ensures.asked);
  kept = pace_then _ _ _ c.args.run.now.runner c.loop-place.run.runner c.leave.new.run.runner c.loop-place.invariant.context c.loop-place.invariant.kept c.in_ok-leave.ensures.kept;
  context = c.leave.ensures.context ∙ c.loop-place.invariant.context;
  sinks = c.leave.ensures.sinks ∙ c.loop-place.invariant.sinks;
}

pub returns-clause-passes : goal.returns-clause-passes
returns-clause-passes g c = λ k can. (
    let Q : List ℕ → Type 0 = λ ops. Passes (words_of g.H.KeyHasher.hash_of k) k.task c.loop-place.run ops c.args.at c.args.pipelines.now.items in
    subst Q (drop_all c.loop-place.place c.args.operators.now (omega arith)) (c.loop-place.invariant.passes k can))

pub returns-in_err-leave-clause-asked : goal.returns-in_err-leave-clause-asked
returns-in_err-leave-clause-asked g c = asked_passed_then g.C.StopCheck 0 0 0 _ _ _ _ _ _ c.from_residual.ensures.1 c.loop-place.invariant.asked c.in_err-leave.ensures.asked

pub returns-clause-asked : goal.returns-clause-asked
returns-clause-asked g c = asked-made g.C.StopCheck 0 0 _ _ _ _ (omega arith) c.loop-place.invariant.asked

pub returns-in_err-leave-clause-context : goal.returns-in_err-leave-clause-context
returns-in_err-leave-clause-context g c = c.leave.ensures.context ∙ c.loop-place.invariant.context

pub returns-clause-context : goal.returns-clause-context
returns-clause-context g c = c.loop-place.invariant.context

pub returns-clause-noted : goal.returns-clause-noted
returns-clause-noted g c = c.loop-place.invariant.noted

pub returns-in_err-leave-clause-err : goal.returns-in_err-leave-clause-err
returns-in_err-leave-clause-err g c = err_same _ _ _ c.from_residual.ensures.1 (λ k can. limit_as k.task.m _ _ _ c.loop-place.invariant.context (c.in_err-leave.ensures.err k (record { sound = can.sound; passes = c.loop-place.invariant.passes k can })))

pub returns-clause-kept : goal.returns-clause-kept
returns-clause-kept g c = c.loop-place.invariant.kept

pub returns-in_err-leave-clause-sinks : goal.returns-in_err-leave-clause-sinks
returns-in_err-leave-clause-sinks g c = c.leave.ensures.sinks ∙ c.loop-place.invariant.sinks

pub returns-clause-sinks : goal.returns-clause-sinks
returns-clause-sinks g c = c.loop-place.invariant.sinks
