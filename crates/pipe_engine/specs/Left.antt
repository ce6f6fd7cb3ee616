-- What is left of a plan's branches after some have run, and what these left behind.
--
-- A worked case. Of a join 3 of the scans 1 and 2, of which 1 is built, the branches are one from 1
-- into the build of 3, and one from 2 through 3 into the root's sink. Once the first has run, it is
-- `ran`, and the other is left; slot 3 has a table of the rows of 1, node 1 gave its rows, no other
-- node gave any, and nothing stands in a sink.
use Rattle.std.specs.Prelude.{◌≡◌, ℕ, List, [], ◌++◌, None, length}
use Rattle.std.specs.List.{AllByRecursion}
use Rattle.pipe_schema.proofs.Weights.{SameBag}
use Rattle.pipe_rows.specs.Partition.{IsPartitionCount}
use Rattle.pipe_ops.specs.declared.context.PExecutionContext.{PExecutionContext}
use Rattle.pipe_plan.specs.Faults.{IsWellFormed}
use Rattle.pipe_driver.specs.Meaning.{Meaning, Into, meaning_of}
use Rattle.pipe_driver.specs.Legs.{Way, ways_of}
use Rattle.pipe_driver.specs.Ways.{passes}
use Rattle.pipe_driver.specs.declared.sink_counts.SinkCounts.{SinkCounts}
use Rattle.pipe_driver.specs.Fronts.{IsClosed}
use Rattle.pipe_driver.specs.Lines.{AreNumbered, ways_as, IsLine}
use Rattle.pipe_driver.specs.Numbers.{sink_number}
use Rattle.pipe_driver.specs.Plans.{Ask, task_of}
use Rattle.pipe_driver.specs.State.{World, Counts, IsBetween}
use Rattle.pipe_driver.specs.Tables.{number_at}
use Rattle.pipe_passage.specs.LaneSeats.{sum_of, IsRest, HasSeats}
use Rattle.pipe_slots.specs.SlotTables.{slot_at, seats_at}
use Rattle.pipe_slots.specs.declared.slots.Slots.{Slots}
use Rattle.pipe_engine.specs.Drives.{Line}
use Rattle.pipe_engine.specs.Engine.{engine_words, AreCounted, SlotFits}
use Rattle.pipe_engine.specs.Stands.{Settings}
use Rattle.pipe_engine.specs.declared.engine.Engine.{Engine}

-- ---- what pipelines share

-- an engine has what pipelines share
pub record Shares {H : Type 0} (shared : Slots H) (engine : Engine H) : Type 0 where
  pub slots : engine.slots.slots ≡ shared.slots
  pub seats : engine.slots.seats ≡ shared.seats
  pub workers : engine.slots.workers ≡ shared.workers
  pub given : engine.given ≡ shared.given

-- where a plan means this and these rows came to its places: what was counted, that no rows are in a
-- sink, and the tables of joins with their seats, all of which are in
pub record SharedFit {H : Type 0} (x : Settings H) (m : Meaning) (context : PExecutionContext)
    (shared : Slots H) (w : World) : Type 0 where
  pub long : length shared.slots.items ≡ m.ordered
  pub seated : length shared.seats.items ≡ m.ordered
  pub made_for : shared.workers ≡ context.workers
  pub given : length shared.given.items ≡ m.ordered
  pub counted : AreCounted {H = H} shared.given.items None context.row_limit w
  pub none : (s : ℕ) → SameBag (w.there (Into s)) []
  pub slots : (j : ℕ) → SlotFits x m w j (slot_at shared.slots.items j)
      (sum_of (seats_at shared.seats.items j))
  pub rest : (j : ℕ) → IsRest 0 (slot_at shared.slots.items j) (seats_at shared.seats.items j)
  pub enough : (j : ℕ) → HasSeats context.workers (slot_at shared.slots.items j)

-- ---- the branches that are left

-- by a sink, how many legs still feed it, and by a node, how many still go through it
abbrev pub counts_left : Ask → SinkCounts → List Way → Counts
counts_left ask counts left = record {
  sinks = λ s. number_at counts.left.items (sink_number ask.plan ask.root s);
  probers = λ n. passes n left;
}

-- The pipelines are the branches of a well-formed plan, in order, but for some first ones that have
-- run, and feed no sink that one of those fed. What they share, and the counts, are as those left them
-- in some world; and so many partitions as the context's workers ask for
pub record AreLeft {H : Type 0} (hash_of : H → List ℕ → ℕ) (x : Settings H) (ask : Ask)
    (context : PExecutionContext) (shared : Slots H) (counts : SinkCounts) (lines : List (Line H)) :
    Type 0 where
  pub well : IsWellFormed ask.plan ask.root
  pub ran : List Way
  pub ways : ran ++ ways_as (length ask.plan.nodes) lines ≡ ways_of ask.plan ask.root
  pub closed : IsClosed ran (ways_as (length ask.plan.nodes) lines)
  pub are : AllByRecursion (IsLine (engine_words hash_of x) (task_of ask)) lines
  pub numbered : AreNumbered (task_of ask) counts.left.items
  pub parts : IsPartitionCount context.workers x.parts
  pub world : World
  pub between : IsBetween (meaning_of ask.plan ask.root) world
      (counts_left ask counts (ways_as (length ask.plan.nodes) lines)) []
      (ways_as (length ask.plan.nodes) lines)
  pub fits : SharedFit x (meaning_of ask.plan ask.root) context shared world
