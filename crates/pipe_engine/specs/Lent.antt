-- What is lent to a run before the first branch of its plan.
use Rattle.std.specs.Prelude.{◌≡◌, ℕ, List, length}
use Rattle.std.specs.List.{AllByRecursion}
use Rattle.pipe_rows.specs.Partition.{IsPartitionCount}
use Rattle.pipe_ops.specs.declared.context.PExecutionContext.{PExecutionContext}
use Rattle.pipe_plan.specs.Faults.{IsWellFormed}
use Rattle.pipe_driver.specs.Legs.{ways_of}
use Rattle.pipe_driver.specs.Numbers.{named_sinks, sink_number}
use Rattle.pipe_driver.specs.Ways.{feeds}
use Rattle.pipe_driver.specs.declared.sink_counts.SinkCounts.{SinkCounts}
use Rattle.pipe_driver.specs.Lines.{ways_as, IsLine}
use Rattle.pipe_driver.specs.Plans.{Ask, task_of}
use Rattle.pipe_driver.specs.Tables.{number_at}
use Rattle.pipe_slots.specs.SlotTables.{slot_at}
use Rattle.pipe_slots.specs.declared.slot.Slot.TheVariants.{Empty}
use Rattle.pipe_slots.specs.declared.slots.Slots.{Slots}
use Rattle.pipe_engine.specs.Drives.{Line}
use Rattle.pipe_engine.specs.Engine.{engine_words}
use Rattle.pipe_engine.specs.Stands.{Settings}

-- slots of so many nodes, made for so many workers, none of which is filled; and no node gave a row
pub record AreUnfilled {H : Type 0} (nodes workers : ℕ) (slots : Slots H) : Type 0 where
  pub long : length slots.slots.items ≡ nodes
  pub seated : length slots.seats.items ≡ nodes
  pub made_for : slots.workers ≡ workers
  pub empty : (k : ℕ) → slot_at slots.slots.items k ≡ Empty
  pub given : length slots.given.items ≡ nodes
  pub none : (n : ℕ) → number_at slots.given.items n ≡ 0

-- by each sink's number, how many branches of a plan feed it
pub record AreFeeds (ask : Ask) (counts : SinkCounts) : Type 0 where
  pub many : length counts.left.items ≡ length (named_sinks ask.plan ask.root)
  pub each : (s : ℕ) → number_at counts.left.items (sink_number ask.plan ask.root s)
      ≡ feeds s (ways_of ask.plan ask.root)

-- The pipelines are the branches of a well-formed plan, in order, none of which has run: no slot is
-- filled, and the counts are those of all branches. What is lent is for as many workers as the context
-- has, with as many partitions as these ask for
pub record AreLent {H : Type 0} (hash_of : H → List ℕ → ℕ) (x : Settings H) (ask : Ask)
    (context : PExecutionContext) (slots : Slots H) (counts : SinkCounts) (lines : List (Line H)) :
    Type 0 where
  pub well : IsWellFormed ask.plan ask.root
  pub ways : ways_as (length ask.plan.nodes) lines ≡ ways_of ask.plan ask.root
  pub are : AllByRecursion (IsLine (engine_words hash_of x) (task_of ask)) lines
  pub unfilled : AreUnfilled (length ask.plan.nodes) context.workers slots
  pub feeds_are : AreFeeds ask counts
  pub parts : IsPartitionCount context.workers x.parts
