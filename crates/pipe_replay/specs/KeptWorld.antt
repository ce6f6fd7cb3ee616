-- A world with what it keeps of its plan.
use Rattle.std.specs.Prelude.{◌≡◌, ℕ, List, Option, length}
use Rattle.pipe_rows.specs.Partition.{IsPartitionCount, partition_of_key}
use Rattle.pipe_plan.specs.Plan.{plan_of}
use Rattle.pipe_events.specs.PlanStages.{Setting, stages_of}
use Rattle.pipe_events.specs.Stages.{Stages}
use Rattle.pipe_events.specs.Worlds.{World}
use Rattle.pipe_check.specs.Checked.{Checked}
use Rattle.pipe_world.specs.Staged.{Staging, AreTables, staged}
use Rattle.pipe_world.specs.declared.plan_tables.PlanTables.{PlanTables}
use Rattle.pipe_world.specs.Shown.{Shown, IsFor, world_of}
use Rattle.pipe_replay.specs.KeptLists.{AreKept}
use Rattle.pipe_replay.specs.declared.lists.SortedList.{SortedList}

-- the tables of a plan, for how many workers and partitions it is, the lists of sorts, and how far the
-- run came
pub record KeptWorld : Type 0 where
  pub tables : PlanTables
  pub workers : ℕ
  pub parts : ℕ
  pub lists : List (Option SortedList)
  pub shown : Shown

-- the world that it is
abbrev pub world_in : KeptWorld → World
world_in w = world_of w.shown

-- so many workers and partitions, and the partition of each key by a hash
abbrev pub setting_by : (hash_of : List ℕ → ℕ) → (workers parts : ℕ) → Setting
setting_by hash_of workers parts = record {
  workers = workers;
  parts = parts;
  part = partition_of_key hash_of parts;
}

-- the stages of a plan for these
abbrev pub stages_for : (hash_of : List ℕ → ℕ) → Checked → (workers parts : ℕ) → Stages
stages_for hash_of plan workers parts =
    stages_of (plan_of plan.arena) plan.root (setting_by hash_of workers parts)

-- the stages of a plan for the workers and partitions of a world
abbrev pub stages_in : (hash_of : List ℕ → ℕ) → Checked → KeptWorld → Stages
stages_in hash_of plan w = stages_for hash_of plan w.workers w.parts

-- what the code's stages of a plan are for, in a world
abbrev pub staging : Checked → KeptWorld → Staging
staging plan w = record {
  arena = plan.arena;
  root = plan.root;
  workers = w.workers;
  parts = w.parts;
}

-- a world is of a plan
pub record IsOf (plan : Checked) (w : KeptWorld) : Type 0 where
  pub tables : AreTables (plan_of plan.arena) w.tables
  pub root : w.tables.root ≡ plan.root
  pub parts : IsPartitionCount w.workers w.parts
  pub nodes : IsFor (length (plan_of plan.arena).nodes) w.shown
  pub kept : AreKept (staged (staging plan w)) (world_in w).bag w.lists
