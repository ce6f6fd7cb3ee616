use Rattle.std.proofs.Common.{◌≡◌, ◌∷◌, ◌<◌, List, length, sym, ap, subst, ◌∙◌, arith}
use Rattle.std.proofs.lemmas.List.{nil_from_length}
use Rattle.pipe_driver.specs.Plans.{task_of}
use Rattle.pipe_driver.specs.Runs.{Between}
use Rattle.pipe_driver.specs.declared.sink_counts.SinkCounts.{SinkCounts}
use Rattle.pipe_slots.specs.declared.slots.Slots.{Slots}
use Rattle.pipe_engine.specs.Drives.{Line}
use Rattle.pipe_engine.specs.Engine.{engine_words}
use Rattle.pipe_engine.specs.Left.{AreLeft}
use Rattle.pipe_lines.specs.Running.{ways_in}
use Rattle.pipe_lines.proofs.lending.lend.Goals as goal

pub unreachable-requires : goal.unreachable-requires
unreachable-requires g c =
    let lines = c.in_ok-lines.ensures in
    let others = c.from_vec-others.ensures.items in
    let none = nil_from_length c.from_vec-others.result.items (omega (arith, c.in_default.ensures.cases.0)) in
    let some = ap length (sym lines ∙ sym others ∙ none) in
    omega (arith, some)

pub returns-clause-lines : goal.returns-clause-lines
returns-clause-lines g c = sym c.in-Some.ensures.items ∙ c.from_vec-others.ensures.items ∙ c.in_ok-lines.ensures

pub returns-clause-between : goal.returns-clause-between
returns-clause-between g c = λ asked stand. (
    let hash_of = g.H.KeyHasher.hash_of in
    let context = c.args.context in
    let S : Slots g.row.H.Denot → Type 0 = λ s. AreLeft hash_of asked.settings asked.ask context s c.args.counts.now (ways_in (c.args.first.now ∷ c.args.pipelines.now.items)) in
    let N : SinkCounts → Type 0 = λ n. AreLeft hash_of asked.settings asked.ask context c.replace-shared.result n (ways_in (c.args.first.now ∷ c.args.pipelines.now.items)) in
    let L : List (Line g.row.H.Denot) → Type 0 = AreLeft hash_of asked.settings asked.ask context c.replace-shared.result c.replace-counted.result in
    let left = subst L (sym c.in_ok-lines.ensures) (subst N (sym c.replace-counted.ensures.value) (subst S (sym c.replace-shared.ensures.value) stand.left)) in
    let made = rw c.as_slice.ensures.value at c.in_ok-run.ensures.left in
    let B : List (Line g.row.H.Denot) → Type 0 = Between (engine_words hash_of asked.settings) (task_of asked.ask) c.in_ok-run.run' in
    subst B (sym c.from_vec-others.ensures.items ∙ c.in-Some.ensures.items) (made hash_of asked.settings asked.ask left))

pub returns-clause-context : goal.returns-clause-context
returns-clause-context g c = c.in_ok-run.ensures.context

pub returns-clause-journal : goal.returns-clause-journal
returns-clause-journal g c = c.in_ok-run.ensures.journal ∙ c.replace-written.ensures.value

pub returns-clause-parked : goal.returns-clause-parked
returns-clause-parked g c = c.in_ok-run.ensures.parked

pub returns-clause-counts : goal.returns-clause-counts
returns-clause-counts g c = c.in_ok-run.ensures.counts ∙ c.replace-counted.ensures.value

pub returns-clause-none_open : goal.returns-clause-none_open
returns-clause-none_open g c = c.in_ok-run.ensures.none_open
