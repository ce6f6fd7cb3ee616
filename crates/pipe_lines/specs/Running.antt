-- Pipelines that stand for the branches of a plan, and what their run gives.
use Rattle.std.specs.Prelude.{ℕ, List, [], map}
use Rattle.std.specs.List.{AllByRecursion}
use Rattle.pipe_frame.specs.Frame.{Table}
use Rattle.pipe_schema.specs.Rows.{Same}
use Rattle.pipe_ops.specs.declared.context.PExecutionContext.{PExecutionContext}
use Rattle.pipe_plan.specs.PlanRows.{rows_of}
use Rattle.pipe_events.specs.EventValues.{event_value}
use Rattle.pipe_events.specs.PlanStages.{Setting}
use Rattle.pipe_events.specs.declared.event.Event.{Event}
use Rattle.pipe_driver.specs.Boards.{board_of}
use Rattle.pipe_driver.specs.JournalLaws.{IsWhole}
use Rattle.pipe_driver.specs.Meaning.{meaning_of}
use Rattle.pipe_driver.specs.declared.error.RunError.{RunError}
use Rattle.pipe_driver.specs.declared.sink_counts.SinkCounts.{SinkCounts}
use Rattle.pipe_driver.specs.Within.{AllWithin, RunEndsWith}
use Rattle.pipe_slots.specs.declared.slots.Slots.{Slots}
use Rattle.pipe_engine.specs.Drives.{Line}
use Rattle.pipe_engine.specs.Finished.{IsRootFrame}
use Rattle.pipe_engine.specs.Journals.{staging_of}
use Rattle.pipe_engine.specs.Known.{Asked}
use Rattle.pipe_engine.specs.Lent.{AreLent}
use Rattle.pipe_engine.specs.Noted.{AreListed, IsStagingOf}
use Rattle.pipe_lines.specs.Cuts.{way_in, IsLineFor}
use Rattle.pipe_lines.specs.declared.pipe_line.PipeLine.{PipeLine}

-- the legs of pipelines
abbrev pub ways_in : {H : Type 0} → List (PipeLine H) → List (Line H)
ways_in pipelines = map way_in pipelines

-- Pipelines are the branches of a plan, in order, of which none has run; slots, none of which is
-- filled, and counts are for these; and they are made for the context's workers
pub record StandForBranches {H : Type 0} (hash_of : H → List ℕ → ℕ) (asked : Asked H)
    (context : PExecutionContext) (pipelines : List (PipeLine H)) (slots : Slots H)
    (counts : SinkCounts) : Type 0 where
  pub lent : AreLent hash_of asked.settings asked.ask context slots counts (ways_in pipelines)
  pub made_for : AllByRecursion (IsLineFor context.workers) pipelines

-- so they are of some plan
pub record ForBranches {H : Type 0} (hash_of : H → List ℕ → ℕ) (context : PExecutionContext)
    (pipelines : List (PipeLine H)) (slots : Slots H) (counts : SinkCounts) : Type 0 where
  pub asked : Asked H
  pub stand : StandForBranches hash_of asked context pipelines slots counts

-- each plan of which they are is so
abbrev pub ForEachPlan : {H : Type 0} → (hash_of : H → List ℕ → ℕ) → PExecutionContext →
    List (PipeLine H) → Slots H → SinkCounts → (Is : Asked H → Type 0) → Type 0
ForEachPlan {H = H} hash_of context pipelines slots counts Is =
    (asked : Asked H) → StandForBranches hash_of asked context pipelines slots counts → Is asked

-- ---- what a run gives

-- the rows of the root
abbrev pub HasRootRows : {H : Type 0} → Table → Asked H → Type 0
HasRootRows frame asked = Same frame.rows (rows_of asked.ask.plan asked.ask.root)

-- under the schema of the root's sink, and in the order of the root's rows where they have one
abbrev pub IsFrameOfRoot : {H : Type 0} → Table → Asked H → Type 0
IsFrameOfRoot frame asked = IsRootFrame asked.settings frame

-- no node under the root has more rows than the limit
abbrev pub StaysWithin : {H : Type 0} → (limit : ℕ) → Asked H → Type 0
StaysWithin limit asked = AllWithin limit asked.ask.plan asked.ask.root

-- no memory, a stop, or a node under the root with more rows than the limit
abbrev pub RefusesBy : {H : Type 0} → (limit : ℕ) → RunError → Asked H → Type 0
RefusesBy limit e asked = RunEndsWith limit asked.ask.plan asked.ask.root e

-- a journal is a whole one, for each setting that is that of the run
abbrev pub HasWholeJournal : {H : Type 0} → (workers : ℕ) → List (PipeLine H) → List Event → Asked H →
    Type 0
HasWholeJournal workers pipelines events asked =
    (setting : Setting)
    → AreListed (staging_of asked.ask setting) (meaning_of asked.ask.plan asked.ask.root) []
    (ways_in pipelines)
    → IsStagingOf asked.settings (meaning_of asked.ask.plan asked.ask.root) workers
    (staging_of asked.ask setting)
    → IsWhole (board_of asked.ask.plan asked.ask.root setting) (map event_value events)
