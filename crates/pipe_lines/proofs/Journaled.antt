-- The journal of a run of branches is a complete list of events of its plan, for each setting that is the run's.
use Rattle.std.proofs.Common.{◌≡◌, ℕ, ◌<◌, ◌≤◌, List, [], map, sym, subst, ◌∙◌, arith}
use Rattle.std.specs.Prelude.{OnOk, IfOk, Result, Ok, Err}
use Rattle.std.proofs.lemmas.Nat.{mod_below}
use Rattle.pipe_frame.specs.Frame.{Table}
use Rattle.pipe_schema.specs.Rows.{Row, Same}
use Rattle.pipe_schema.proofs.Weights.{SameBag-sym, SameBag-trans, SameBag-from_rows, Same-from_bag}
use Rattle.pipe_rows.specs.Equality.{equality_row}
use Rattle.pipe_rows.specs.Partition.{IsPartitionCount}
use Rattle.pipe_ops.specs.declared.context.PExecutionContext.{PExecutionContext}
use Rattle.pipe_run.specs.Paced.{KeepsPace}
use Rattle.pipe_plan.specs.PlanRows.{rows_of}
use Rattle.pipe_events.specs.EventValues.{event_value}
use Rattle.pipe_events.specs.PlanStages.{IsSoundPlan, Setting, stages_of}
use Rattle.pipe_events.specs.Schedules.{run}
use Rattle.pipe_events.specs.Worlds.{start}
use Rattle.pipe_events.specs.declared.event.Event.{Event}
use Rattle.pipe_events.proofs.PlanLemmas.{are_stages, stages_have_rows}
use Rattle.pipe_events.proofs.Unfaulted.{without_fault}
use Rattle.pipe_events.specs.Fits.{FramesFit}
use Rattle.pipe_events.proofs.Plans.{sorts_sure}
use Rattle.pipe_driver.proofs.Sound.{root-there, under-self}
use Rattle.pipe_check.specs.Checked.{Checked}
use Rattle.pipe_convert.specs.Nodes.{plan_in, rows_in}
use Rattle.pipe_driver.specs.declared.sink_counts.SinkCounts.{SinkCounts}
use Rattle.pipe_slots.specs.declared.slots.Slots.{Slots}
use Rattle.pipe_engine.proofs.Lending.{same_parts}
use Rattle.pipe_lines.specs.Journals.{IsSettingOf, IsJournalOf}
use Rattle.pipe_lines.specs.Running.{ForEachPlan, HasWholeJournal}
use Rattle.pipe_lines.specs.Standing.{asked_in, IsRunFor}
use Rattle.pipe_lines.specs.declared.pipe_line.PipeLine.{PipeLine}

same-sym : {a b : List Row} → Same a b → Same b a
same-sym h = Same-from_bag (SameBag-sym (SameBag-from_rows h))

same-trans : {a b c : List Row} → Same a b → Same b c → Same a c
same-trans h k = Same-from_bag (SameBag-trans (SameBag-from_rows h) (SameBag-from_rows k))

-- ---- the journal

pub journaled : {H : Type 0} (hash_of : H → List ℕ → ℕ) (hash : List ℕ → ℕ) (plan : Checked) (context : PExecutionContext) (pipelines : List (PipeLine H)) (slots : Slots H) (counts : SinkCounts) (events : List Event) (frame : Table)
    → FramesFit (plan_in plan) → 1 ≤ context.workers → IsRunFor hash_of plan context pipelines slots counts
    → ForEachPlan hash_of context pipelines slots counts (HasWholeJournal context.workers pipelines events) → Same frame.rows (rows_in plan plan.root) → IsJournalOf (plan_in plan) plan.root hash context.workers events frame
journaled hash_of hash plan context pipelines slots counts events frame fit some stand wrote rows = λ setting is.
    let p = plan_in plan in
    let workers = context.workers in
    let good = stand.stand.lent.well in
    let there = without_fault p plan.root good.faultless in
    let parts : 0 < setting.parts = (let enough = is.parts_are.enough in omega (arith, some, enough)) in
    let sound : IsSoundPlan p plan.root setting = record {
      rooted = there.0;
      smaller = there.1;
      one_list = sorts_sure p plan.root good.faultless fit;
      parted = λ key. subst (λ part. part key < setting.parts) (sym is.part_is) (mod_below (hash (equality_row key)) setting.parts parts);
    } in
    let same = same_parts workers setting.parts stand.settings.parts is.parts_are stand.stand.lent.parts in
    let staged = stand.staged setting (are_stages p plan.root setting sound) is.workers_are same in
    let whole = wrote (asked_in plan stand.settings) stand.stand setting (stand.listed setting) staged in
    let root_under = under-self p.nodes plan.root (root-there p plan.root good.faultless).0 in
    let B : List Row → Type 0 = Same ((run (stages_of p plan.root setting) start (map event_value events)).bag plan.root) in
    record {
      allowed = whole.allowed;
      complete = whole.complete;
      same = same-trans (subst B (stages_have_rows p plan.root setting plan.root root_under) whole.rows) (same-sym rows);
    }

pub with_journal : {T E : Type 0} {A : Type 0} {B C : T → Type 0} (r : Result T E) → ((x : T) → A → B x → C x) → OnOk r A → IfOk r B → IfOk r C
with_journal (Ok x) f wrote has = f x wrote has
with_journal (Err e) f wrote has = tt

-- ---- its pace

pub kept_as : {T E : Type 0} (r : Result T E) (was now : PExecutionContext) (a b : ℕ) (old new : List Event) → was ≡ now → old ≡ [] → OnOk r (KeepsPace was.workers was.chunk_rows a b old new) → OnOk r (KeepsPace now.workers now.chunk_rows a b [] new)
kept_as (Ok value) was now a b old new same none kept =
    let P : PExecutionContext → Type 0 = λ context. KeepsPace context.workers context.chunk_rows a b old new in
    let Q : List Event → Type 0 = λ events. KeepsPace now.workers now.chunk_rows a b events new in
    subst Q none (subst P same kept)
kept_as (Err error) was now a b old new same none kept = tt
