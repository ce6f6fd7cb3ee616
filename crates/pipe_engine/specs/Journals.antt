-- What the engine's calls write into its journal.
use Rattle.std.specs.Prelude.{◌≡◌, ℕ, ◌<◌, List, [], ◌∷◌, ◌++◌, Some, map}
use Rattle.pipe_events.specs.EventValues.{event_value}
use Rattle.pipe_events.specs.Worlds.{Event}
use Rattle.pipe_events.specs.declared.event.Event as journal
use Rattle.pipe_ops.specs.Batches.{Left}
use Rattle.pipe_ops.specs.declared.sink.FinalizedSink.{FinalizedSink}
use Rattle.pipe_ops.specs.declared.sink.FinalizedSink.TheVariants.{Finished, Operator, Source}
use Rattle.pipe_ops.specs.declared.source.Morsel.{Morsel}
use Rattle.pipe_run.specs.declared.note.Note.{Note}
use Rattle.pipe_run.specs.NotedRounds.{Gives, AreNotedBehind}
use Rattle.pipe_run.specs.Rounds.{left_rows}
use Rattle.pipe_driver.specs.declared.branch.SinkAt.{SinkAt}
use Rattle.pipe_driver.specs.Meaning.{Meaning, meaning_of}
use Rattle.pipe_driver.specs.State.{World}
use Rattle.pipe_driver.specs.Runner.{AreBuilt}
use Rattle.pipe_driver.specs.Plans.{Ask, StandFor}
use Rattle.pipe_driver.specs.declared.run.Next.{Next}
use Rattle.pipe_events.specs.PlanStages.{Setting, stages_of}
use Rattle.pipe_driver.specs.Boards.{board_of, start_of, held_at}
use Rattle.pipe_driver.specs.JournalLaws.{IsWhole}
use Rattle.pipe_driver.specs.Written.{IsLegOf, IsEndOf, closing}
use Rattle.pipe_source.specs.declared.phys_source.PhysSource.{PhysSource}
use Rattle.pipe_engine.specs.Drives.{Line, LineRun}
use Rattle.pipe_engine.specs.Engine.{engine_words, Fits, IsBefore}
use Rattle.pipe_engine.specs.Known.{Known, Asked}
use Rattle.pipe_engine.specs.Noted.{Staging, board_in, IsStagingOf, IsSupplied, AreListed, IsOneFrame, NotedBetween, NotedBefore, NotedFed, NotedNext}
use Rattle.pipe_engine.specs.Stands.{Settings}
use Rattle.pipe_engine.specs.declared.engine.Engine.{Engine}
use Rattle.pipe_engine.specs.declared.part.Part.{Part}

-- the events that were written
abbrev pub events_in : {H : Type 0} → Engine H → List Event
events_in engine = map event_value engine.journal.items

-- all that a source had left went to so many lanes, batch by batch, which noted it behind other notes
pub record TookAll (lanes : ℕ) (left : List Left) (old new : List Note) : Type 0 where
  pub count : ℕ
  pub size : ℕ
  pub index : ℕ
  pub batches : List (List Morsel)
  pub rest : List Left
  pub some : 0 < size
  pub gave : Gives count size index batches left rest
  pub out : left_rows rest ≡ []
  pub noted : AreNotedBehind lanes batches old new

-- some events more were written
pub record Wrote {H : Type 0} (Are : List Event → Type 0) (old new : Engine H) : Type 0 where
  pub more : List Event
  pub whole : events_in new ≡ events_in old ++ more
  pub are : Are more

-- a leg: takes of all rows of its source
abbrev pub WritesLeg : {H : Type 0} → PhysSource → Part H → (old new : Engine H) → Type 0
WritesLeg {H = H} source part old new =
    (x : Settings H) (m : Meaning) (start : ℕ) (v : Staging) →
    part.scans.items ≡ held_at (board_in m v) start → IsSupplied v m start (Some source)
    → IsStagingOf x m old.context.workers v → Wrote (IsLegOf (board_in m v) start) old new

-- a node that the last leg leaves: where that is a join that keeps rows of its built side, its probe side
-- is closed, and each partition flushed
abbrev pub WritesEnd : {H : Type 0} → (hash_of : H → List ℕ → ℕ) → ℕ → (old new : Engine H) → Type 0
WritesEnd {H = H} hash_of node old new =
    (x : Settings H) (m : Meaning) (w : World) (now : List ℕ) (at : SinkAt) (v : Staging)
    → Fits hash_of old x m w → IsBefore old.leg (node ∷ now) at → AreBuilt m w (node ∷ now)
    → IsStagingOf x m old.context.workers v → Wrote (IsEndOf (board_in m v) node) old new

-- a sink is closed
abbrev pub WritesClose : {H : Type 0} → SinkAt → (old new : Engine H) → Type 0
WritesClose at old new = events_in new ≡ events_in old ++ closing at

-- a sort's rows are one frame
abbrev pub EndsAsOne : FinalizedSink (Unit {0}) PhysSource → Type 0
EndsAsOne (Finished frame) = Unit {0}
EndsAsOne (Operator built) = Unit {0}
EndsAsOne (Source source) = IsOneFrame source

-- ---- the driver's calls

-- the plan that is known as the events of a run see it
abbrev pub StagedFor : {H : Type 0} → LineRun H → Known H → Staging → Type 0
StagedFor run k v = IsStagingOf k.settings k.task.m run.runner.context.workers v

-- what is noted, of a run with its journal
abbrev pub NotedAt : {H : Type 0} → LineRun H → List (Line H) → Known H → Staging → Type 0
NotedAt run todo k v = NotedBetween v k.task run todo (events_in run.runner)

abbrev pub NotedGoing : {H : Type 0} → LineRun H → Line H → List (Line H) → Known H → Staging → Type 0
NotedGoing run p todo k v = NotedBefore v k.task run p todo (events_in run.runner)

abbrev pub NotedAfter : {H : Type 0} → LineRun H → SinkAt → List (Line H) → Known H → Staging → Type 0
NotedAfter run at todo k v = NotedFed v k.task run at todo (events_in run.runner)

abbrev pub NotedThen : {H : Type 0} → LineRun H → List (Line H) → Next PhysSource (Part H) → Known H →
    Staging → Type 0
NotedThen run todo next k v = NotedNext v k.task run todo (events_in run.runner) next

-- the journal is whole
abbrev pub WroteWhole : {H : Type 0} → List journal.Event → Known H → Staging → Type 0
WroteWhole events k v = IsWhole (board_in k.task.m v) (map event_value events)

-- what is noted before a call lets another thing be noted after it
abbrev pub Keeps : {H : Type 0} → LineRun H → (Before After' : Known H → Staging → Type 0) → Known H →
    Type 0
Keeps run Before After' k = (v : Staging) → StagedFor run k v → Before k v → After' k v

-- the stages of a plan, for a run
abbrev pub staging_of : Ask → Setting → Staging
staging_of ask setting = record {
  stages = stages_of ask.plan ask.root setting;
  source_of = start_of ask.plan ask.root;
}

-- the journal of a run that begins with an empty one is whole for each plan for whose branches
-- pipelines stand, and each setting that is that of the run
abbrev pub JournalsPlan : {H : Type 0} → (hash_of : H → List ℕ → ℕ) → LineRun H → List (Line H) →
    List journal.Event → Type 0
JournalsPlan {H = H} hash_of run pipelines events =
    (asked : Asked H) (setting : Setting)
    → StandFor (engine_words hash_of asked.settings) asked.ask run pipelines
    → run.runner.journal.items ≡ []
    → AreListed (staging_of asked.ask setting) (meaning_of asked.ask.plan asked.ask.root) [] pipelines
    → IsStagingOf asked.settings (meaning_of asked.ask.plan asked.ask.root)
    run.runner.context.workers (staging_of asked.ask setting)
    → IsWhole (board_of asked.ask.plan asked.ask.root setting) (map event_value events)
