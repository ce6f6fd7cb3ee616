-- The front part of a plan's branches that one call runs, and what it leaves.
--
-- A worked case. Of the branches of a join 3 of the scans 1 and 2, of which 1 is built, one from 1 into
-- the build of 3 and one from 2 through 3 into the root's sink, a call of the first runs it alone, since
-- the other feeds another sink: the answer says that a slot is filled, and the other is left. Were 2 a
-- union of two scans with a filter over one of them, two branches would be left, which both feed the
-- root's sink: a call of the first of these runs both, and its answer is the root's rows.
use Rattle.std.specs.Prelude.{◌≡◌, ℕ, ◌<◌, List, [], ◌∷◌, length, take, drop, map, Option, Some, None}
use Rattle.std.specs.List.{AllByRecursion}
use Rattle.pipe_frame.specs.Frame.{Table}
use Rattle.pipe_ops.specs.declared.context.PExecutionContext.{PExecutionContext}
use Rattle.pipe_ops.specs.declared.sink.FinalizedSink.{FinalizedSink}
use Rattle.pipe_ops.specs.declared.sink.FinalizedSink.TheVariants.{Finished, Operator, Source}
use Rattle.pipe_source.specs.declared.phys_source.PhysSource.{PhysSource}
use Rattle.pipe_events.specs.EventValues.{event_value}
use Rattle.pipe_events.specs.PlanStages.{Setting}
use Rattle.pipe_events.specs.declared.event.Event.{Event}
use Rattle.pipe_driver.specs.declared.branch.SinkAt.TheVariants as at
use Rattle.pipe_driver.specs.Boards.{board_of}
use Rattle.pipe_driver.specs.Fronts.{IsClosed}
use Rattle.pipe_driver.specs.Legs.{Way}
use Rattle.pipe_driver.specs.Lines.{ways_as}
use Rattle.pipe_driver.specs.Meaning.{meaning_of}
use Rattle.pipe_driver.specs.Recorded.{IsNoted}
use Rattle.pipe_driver.specs.State.{nothing}
use Rattle.pipe_driver.specs.declared.pipe_line.Leg.{Leg}
use Rattle.pipe_driver.specs.declared.sink_counts.SinkCounts.{SinkCounts}
use Rattle.pipe_slots.specs.SlotTables.{slot_at}
use Rattle.pipe_slots.specs.declared.slot.Slot.{Slot}
use Rattle.pipe_slots.specs.declared.slot.Slot.TheVariants as slot
use Rattle.pipe_slots.specs.declared.slots.Slots.{Slots}
use Rattle.pipe_engine.specs.Journals.{staging_of}
use Rattle.pipe_engine.specs.Known.{Asked}
use Rattle.pipe_engine.specs.Left.{AreLeft, counts_left}
use Rattle.pipe_engine.specs.Noted.{AreListed, IsStagingOf}
use Rattle.pipe_engine.specs.declared.part.Part.{Part}
use Rattle.pipe_lines.specs.Cuts.{IsLineFor}
use Rattle.pipe_lines.specs.Running.{ways_in, HasRootRows, IsFrameOfRoot}
use Rattle.pipe_lines.specs.declared.pipe_line.PipeLine.{PipeLine}

-- ---- before a call, and behind it

-- Pipelines are the branches of a plan, in order, that are left behind some front part of them; what
-- they share, and the counts, are as that left them; and they are made for the context's workers
pub record StandForLeft {H : Type 0} (hash_of : H → List ℕ → ℕ) (asked : Asked H)
    (context : PExecutionContext) (pipelines : List (PipeLine H)) (slots : Slots H)
    (counts : SinkCounts) : Type 0 where
  pub left : AreLeft hash_of asked.settings asked.ask context slots counts (ways_in pipelines)
  pub made_for : AllByRecursion (IsLineFor context.workers) pipelines

-- so they are of some plan
pub record ForLeft {H : Type 0} (hash_of : H → List ℕ → ℕ) (context : PExecutionContext)
    (pipelines : List (PipeLine H)) (slots : Slots H) (counts : SinkCounts) : Type 0 where
  pub asked : Asked H
  pub stand : StandForLeft hash_of asked context pipelines slots counts

-- each plan of which they are is so
abbrev pub ForEachLeft : {H : Type 0} → (hash_of : H → List ℕ → ℕ) → PExecutionContext →
    List (PipeLine H) → Slots H → SinkCounts → (Is : Asked H → Type 0) → Type 0
ForEachLeft {H = H} hash_of context pipelines slots counts Is =
    (asked : Asked H) → StandForLeft hash_of asked context pipelines slots counts → Is asked

-- ---- what a call did

-- the branches that pipelines are
abbrev pub branches_in : {H : Type 0} → Asked H → List (PipeLine H) → List Way
branches_in asked pipelines = ways_as (length asked.ask.plan.nodes) (ways_in pipelines)

-- it ran so many branches, the first ones: the fewest of which no later branch feeds a sink that one
-- of them feeds. The others are left, in order
pub record RanFront {H : Type 0} (hash_of : H → List ℕ → ℕ) (context : PExecutionContext)
    (all later : List (PipeLine H)) (slots : Slots H) (counts : SinkCounts) (asked : Asked H) : Type 0
  where
    pub count : ℕ
    pub some : 0 < count
    pub later_is : ways_in later ≡ drop count (ways_in all)
    pub closed : IsClosed (take count (branches_in asked all)) (branches_in asked later)
    pub shortest : (i : ℕ) → 0 < i → i < count →
        IsClosed (take i (branches_in asked all)) (drop i (branches_in asked all)) → ⊥
    pub left : StandForLeft hash_of asked context later slots counts

-- the answer of a call: a frame where the root's sink was closed; else the word that a slot was filled
abbrev pub answer_of : Option Table → FinalizedSink (Unit {0}) PhysSource
answer_of None = Operator tt
answer_of (Some frame) = Finished frame

-- the last sink of some legs is that of the root
abbrev pub EndAtRoot : {H : Type 0} → List (Leg (Part H)) → Type 0
EndAtRoot [] = ⊥
EndAtRoot (leg ∷ []) = leg.at ≡ at.Ordered
EndAtRoot (leg ∷ next ∷ legs) = EndAtRoot (next ∷ legs)

-- so it is the build of a join
abbrev pub EndAtBuild : {H : Type 0} → (join : ℕ) → List (Leg (Part H)) → Type 0
EndAtBuild join [] = ⊥
EndAtBuild join (leg ∷ []) = leg.at ≡ at.Build join
EndAtBuild join (leg ∷ next ∷ legs) = EndAtBuild join (next ∷ legs)

-- what a probe reads is there
abbrev pub IsFilled : {H : Type 0} → Slot H → Type 0
IsFilled slot.Empty = ⊥
IsFilled (slot.Keys table) = Unit {0}
IsFilled (slot.Rows frame) = Unit {0}
IsFilled (slot.Full table) = Unit {0}
IsFilled slot.Spent = ⊥

-- a pipeline's last sink is the build of a join, of which the slot is filled
pub record HasFilled {H : Type 0} (first : PipeLine H) (slots : Slots H) : Type 0 where
  pub join : ℕ
  pub ends : EndAtBuild join first.way.legs.items
  pub filled : IsFilled (slot_at slots.slots.items join)

-- The root's rows, under the schema of its sink, and in their order where they have one, where the last
-- sink of the first pipeline is the root's; and the word that a slot was filled where it is a build
abbrev pub IsFrontAnswer : {H : Type 0} → PipeLine H → Slots H →
    FinalizedSink (Unit {0}) PhysSource → Asked H → Type 0
IsFrontAnswer first slots (Finished frame) asked =
    HasRootRows frame asked × IsFrameOfRoot frame asked × EndAtRoot first.way.legs.items
IsFrontAnswer first slots (Operator built) asked = HasFilled first slots
IsFrontAnswer first slots (Source source) asked = ⊥

-- ---- the journal

-- events are what the branches that aren't left wrote: allowed where they stand, all of what those
-- take, flush and close, and no more
pub record HasLeftJournal {H : Type 0} (asked : Asked H) (setting : Setting)
    (pipelines : List (PipeLine H)) (counts : SinkCounts) (events : List Event) : Type 0 where
  pub noted : IsNoted (board_of asked.ask.plan asked.ask.root setting)
      (counts_left asked.ask counts (branches_in asked pipelines)) nothing []
      (branches_in asked pipelines) (map event_value events)
  pub listed : AreListed (staging_of asked.ask setting) (meaning_of asked.ask.plan asked.ask.root) []
      (ways_in pipelines)

-- where they were so before a call they are so behind it, for each setting that is that of the run
abbrev pub KeepsJournal : {H : Type 0} → (workers : ℕ) → (all later : List (PipeLine H)) →
    (counts counts' : SinkCounts) → (old new : List Event) → Asked H → Type 0
KeepsJournal workers all later counts counts' old new asked =
    (setting : Setting)
    → IsStagingOf asked.settings (meaning_of asked.ask.plan asked.ask.root) workers
    (staging_of asked.ask setting)
    → HasLeftJournal asked setting all counts old → HasLeftJournal asked setting later counts' new
