-- What the journal of a run is: a complete list of events of its plan.
use Rattle.std.specs.Prelude.{◌≡◌, ℕ, List, map}
use Rattle.pipe_schema.specs.Rows.{Row, Same}
use Rattle.pipe_frame.specs.Frame.{Table}
use Rattle.pipe_rows.specs.Partition.{IsPartitionCount, partition_of_key}
use Rattle.pipe_events.specs.EventValues.{event_value}
use Rattle.pipe_events.specs.PlanStages.{Setting, stages_of}
use Rattle.pipe_events.specs.Schedules.{AllAllowed, IsComplete, run}
use Rattle.pipe_events.specs.Stages.{Stages}
use Rattle.pipe_events.specs.Worlds as worlds
use Rattle.pipe_events.specs.Worlds.{start}
use Rattle.pipe_events.specs.declared.event.Event.{Event}
use Rattle.pipe_plan.specs.Plan.{Plan}

-- a run by so many workers, with the partitions that a hash gives the keys
pub record IsSettingOf (hash_of : List ℕ → ℕ) (workers : ℕ) (setting : Setting) : Type 0 where
  pub workers_are : setting.workers ≡ workers
  pub parts_are : IsPartitionCount workers setting.parts
  pub part_is : setting.part ≡ partition_of_key hash_of setting.parts

-- each event is allowed where it stands, all is taken, flushed and closed at the end, and what came to
-- the root are some rows
pub record IsWholeList (stages : Stages) (events : List worlds.Event) (rows : List Row) : Type 0 where
  pub allowed : AllAllowed stages start events
  pub complete : IsComplete stages (run stages start events)
  pub same : Same ((run stages start events).bag stages.root) rows

-- events are such a list for each setting that is the run's, and bring the root the rows of a frame
abbrev pub IsJournalOf : Plan → (root : ℕ) → (hash_of : List ℕ → ℕ) → (workers : ℕ) → List Event →
    Table → Type 0
IsJournalOf plan root hash_of workers events frame =
    (setting : Setting) → IsSettingOf hash_of workers setting →
    IsWholeList (stages_of plan root setting) (map event_value events) frame.rows
