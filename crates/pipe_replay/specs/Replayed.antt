-- The answer of a replay.
use Rattle.std.specs.Prelude.{◌≡◌, ℕ, suc, ◌<◌, ◌≤◌, List, true, false, if◌then◌else◌, Option, Some, None, length, take}
use Rattle.pipe_rows.specs.Partition.{partition_of_key}
use Rattle.pipe_events.specs.Stages.{Stages, IsBelow}
use Rattle.pipe_events.specs.Worlds.{World, Event, start}
use Rattle.pipe_events.specs.Schedules.{run}
use Rattle.pipe_events.specs.Decided.{all_allowed}
use Rattle.pipe_world.specs.Staged.{Staging, parted_by}

-- the stages of a plan, with the partition of each key by a hash
abbrev pub parted : (hash_of : List ℕ → ℕ) → Staging → Stages
parted hash_of plan = parted_by (partition_of_key hash_of plan.parts) plan

-- the inputs of each stage stand below it
abbrev pub AreBelow : Stages → Type 0
AreBelow plan = (k : ℕ) → k < plan.size → IsBelow k (plan.stage k)

-- the world after events, none where one of them isn't allowed where it stands
abbrev pub replayed : Stages → World → List Event → Option World
replayed plan w events = if all_allowed plan w events then Some (run plan w events) else None

-- the first events, so many, are allowed where they stand and lead to a world; the next one isn't
pub record IsPlayed (plan : Stages) (events : List Event) (w : World) (count : ℕ) : Type 0 where
  pub within : count ≤ length events
  pub allowed : all_allowed plan start (take count events) ≡ true
  pub world : w ≡ run plan start (take count events)
  pub no_more : count < length events → all_allowed plan start (take (suc count) events) ≡ false
