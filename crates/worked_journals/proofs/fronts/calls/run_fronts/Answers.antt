use Rattle.std.proofs.Common.{rules, ◌≡◌, ℕ, ◌<◌, ◌∷◌, List, [], length, drop, sym, ap, subst, arith, length-drop}
use Rattle.std.proofs.lemmas.List.{length-map}
use Rattle.std.specs.Vec.{vec_len}
use Rattle.pipe_ops.specs.declared.sink.FinalizedSink.{FinalizedSink}
use Rattle.pipe_source.specs.declared.phys_source.PhysSource.{PhysSource}
use Rattle.pipe_rows.specs.declared.hasher.Fnv.{Fnv}
use Rattle.pipe_rows.specs.Fnv.{fnv1a}
use Rattle.pipe_driver.proofs.Drives.{first_is}
use Rattle.pipe_lines.specs.Fronts.{StandForLeft, IsFrontAnswer}
use Rattle.pipe_lines.specs.Cuts.{way_in}
use Rattle.pipe_lines.specs.Running.{ways_in}
use Rattle.pipe_lines.specs.Standing.{asked_in}
use Rattle.pipe_lines.specs.declared.pipe_line.PipeLine.{PipeLine}
use Rattle.worked_journals.proofs.fronts.calls.run_fronts.Goals as goal

pub fronts-init : goal.fronts-init
fronts-init g c = record {
  settings = c.in-Ok.ensures.settings;
  stand = c.none_run_all_left.ensures (asked_in c.args.plan.now c.in-Ok.ensures.settings) c.args.context c.in-Ok.pipelines.items c.in-Ok.slots c.in-Ok.counts c.in-Ok.ensures.stand;
}

pub run_pipeline-requires-clause-left : goal.run_pipeline-requires-clause-left
run_pipeline-requires-clause-left g c =
    let some : 0 < vec_len c.fronts.pipelines = search rules in
    let first = first_is c.fronts.pipelines.items c.remove-first.new.self.items c.remove-first.result (λ e. (let none = ap length e in omega (arith, some, none))) c.remove-first.ensures.value c.remove-first.ensures.items in
    let asked = asked_in c.args.plan.now c.fronts.invariant.settings in
    let S : List (PipeLine Fnv) → Type 0 = λ ps. StandForLeft (λ h. fnv1a) asked c.args.context ps c.fronts.slots c.fronts.counts in
    λ κs lives. record { asked = asked; stand = subst S first c.fronts.invariant.stand }

pub fronts-preserved : goal.fronts-preserved
fronts-preserved g c =
    let some : 0 < vec_len c.fronts.pipelines = search rules in
    let first = first_is c.fronts.pipelines.items c.remove-first.new.self.items c.remove-first.result (λ e. (let none = ap length e in omega (arith, some, none))) c.remove-first.ensures.value c.remove-first.ensures.items in
    let asked = asked_in c.args.plan.now c.fronts.invariant.settings in
    let S : List (PipeLine Fnv) → Type 0 = λ ps. StandForLeft (λ h. fnv1a) asked c.args.context ps c.fronts.slots c.fronts.counts in
    record {
      settings = c.fronts.invariant.settings;
      stand = (c.in_ok-answer.ensures.front asked (subst S first c.fronts.invariant.stand)).left;
    }

pub fronts-smaller : goal.fronts-smaller
fronts-smaller g c =
    let some : 0 < vec_len c.fronts.pipelines = search rules in
    let first = first_is c.fronts.pipelines.items c.remove-first.new.self.items c.remove-first.result (λ e. (let none = ap length e in omega (arith, some, none))) c.remove-first.ensures.value c.remove-first.ensures.items in
    let asked = asked_in c.args.plan.now c.fronts.invariant.settings in
    let S : List (PipeLine Fnv) → Type 0 = λ ps. StandForLeft (λ h. fnv1a) asked c.args.context ps c.fronts.slots c.fronts.counts in
    let ran = c.in_ok-answer.ensures.front asked (subst S first c.fronts.invariant.stand) in
    let all = c.remove-first.result ∷ c.remove-first.new.self.items in
    let later = c.run_pipeline.new.pipelines.items in
    let more = ran.some in
    let long = ap length first in
    let same = ap length ran.later_is in
    let dropped = length-drop ran.count (ways_in all) in
    let a = length-map later way_in in
    let b = length-map all way_in in
    omega (arith, more, long, same, dropped, a, b)

pub returns-in-Finished : goal.returns-in-Finished
returns-in-Finished g c =
    let some : 0 < vec_len c.fronts.pipelines = search rules in
    let first = first_is c.fronts.pipelines.items c.remove-first.new.self.items c.remove-first.result (λ e. (let none = ap length e in omega (arith, some, none))) c.remove-first.ensures.value c.remove-first.ensures.items in
    let asked = asked_in c.args.plan.now c.fronts.invariant.settings in
    let S : List (PipeLine Fnv) → Type 0 = λ ps. StandForLeft (λ h. fnv1a) asked c.args.context ps c.fronts.slots c.fronts.counts in
    let F : FinalizedSink (Unit {0}) PhysSource → Type 0 = λ r. IsFrontAnswer c.remove-first.result c.run_pipeline.new.slots r asked in
    (subst F c.in-Finished.is (c.in_ok-answer.ensures.answer asked (subst S first c.fronts.invariant.stand))).0
