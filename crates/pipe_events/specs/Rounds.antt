-- Rounds: what workers take of one source, or flush of one join. What each gives is handed on
-- before the next is taken.
use Rattle.std.specs.Prelude.{◌≡◌, ◌≢◌, ℕ, ◌+◌, ◌<◌, ◌≤◌, List, [], ◌∷◌, ◌++◌, true, length, map}
use Rattle.std.specs.List.{AllByRecursion, flat_map, range_with_len}
use Rattle.pipe_events.specs.Stages.{JoinStage, Stages, Joined, IsStages, flushes}
use Rattle.pipe_events.specs.Worlds.{World, Event, Take, Done, Flush, IsReady, ChainBuilt, count, source_rows}
use Rattle.pipe_events.specs.Schedules.{AllAllowed, run}

-- so many positions from one on, taken by a worker
pub record Chunk : Type 0 where
  pub worker : ℕ
  pub from : ℕ
  pub amount : ℕ

-- a partition, flushed by a worker
pub record Flushed : Type 0 where
  pub worker : ℕ
  pub part : ℕ

abbrev pub positions_in : Chunk → List ℕ
positions_in chunk = range_with_len chunk.from chunk.amount

abbrev pub positions : List Chunk → List ℕ
positions chunks = flat_map positions_in chunks

abbrev pub part_in : Flushed → ℕ
part_in flushed = flushed.part

-- the events of chunks of a source
abbrev pub takes : (source : ℕ) → List Chunk → List Event
takes source [] = []
takes source (chunk ∷ chunks) =
    Take chunk.worker source chunk.from chunk.amount ∷ Done chunk.worker ∷ takes source chunks

-- the events of partitions of a join
abbrev pub flushing : (join : ℕ) → List Flushed → List Event
flushing join [] = []
flushing join (flushed ∷ more) =
    Flush flushed.worker join flushed.part ∷ Done flushed.worker ∷ flushing join more

module _ (plan : Stages) where
  -- a worker of the run, and some positions that a source has
  pub record IsChunk (w : World) (source : ℕ) (chunk : Chunk) : Type 0 where
    pub is_worker : chunk.worker < plan.workers
    pub some : 1 ≤ chunk.amount
    pub there : chunk.from + chunk.amount ≤ length (source_rows w.bag (plan.stage source))

  -- what chunks of a source ask: it has positions, the joins above it are built, nothing is on its
  -- way, and no position is taken twice
  pub record MayTakeAll (w : World) (source : ℕ) (chunks : List Chunk) : Type 0 where
    pub idle : w.pending ≡ []
    pub inside : source < plan.size
    pub is_ready : IsReady w.closed (plan.stage source)
    pub built : ChainBuilt plan w.closed source
    pub each : AllByRecursion (IsChunk w source) chunks
    pub once : (p : ℕ) → count p (w.taken source ++ positions chunks) ≤ 1

  -- a worker of the run, and a partition that there is
  pub record IsPart (flushed : Flushed) : Type 0 where
    pub is_worker : flushed.worker < plan.workers
    pub there : flushed.part < plan.parts

  -- what partitions of a join ask: its probe side is closed, the joins above it are built, nothing
  -- is on its way, and no partition is flushed twice
  pub record MayFlushAll (w : World) (k : ℕ) (join : JoinStage) (parts : List Flushed) : Type 0
    where
      pub idle : w.pending ≡ []
      pub inside : k < plan.size
      pub is_join : plan.stage k ≡ Joined join
      pub flushing : flushes join ≡ true
      pub probed : w.closed join.probe ≡ true
      pub built : ChainBuilt plan w.closed k
      pub each : AllByRecursion IsPart parts
      pub once : (p : ℕ) → count p (map part_in parts ++ w.flushed k) ≤ 1

-- what a round over a node leaves: nothing is on its way, no side is closed, and no row came to a
-- sink below the node
pub record IsRoundOver (n : ℕ) (w end : World) : Type 0 where
  pub idle : end.pending ≡ []
  pub closed : end.closed ≡ w.closed
  pub below : (t : ℕ) → t < n → end.bag t ≡ w.bag t

-- the world after chunks were taken
pub record HasTaken (source : ℕ) (chunks : List Chunk) (w end : World) : Type 0 where
  pub round : IsRoundOver source w end
  pub taken : end.taken source ≡ w.taken source ++ positions chunks
  pub others : (n : ℕ) → n ≢ source → end.taken n ≡ w.taken n
  pub flushed : end.flushed ≡ w.flushed

-- the world after partitions were flushed
pub record HasFlushed (k : ℕ) (parts : List Flushed) (w end : World) : Type 0 where
  pub round : IsRoundOver k w end
  pub flushed : (p : ℕ) → count p (end.flushed k) ≡ count p (map part_in parts ++ w.flushed k)
  pub others : (n : ℕ) → n ≢ k → end.flushed n ≡ w.flushed n
  pub taken : end.taken ≡ w.taken

-- A round of takes is allowed, and ends with the positions taken
abbrev pub RoundsOfTakes : Type 0
RoundsOfTakes =
    (plan : Stages) → IsStages plan → (w : World) (source : ℕ) (chunks : List Chunk) →
    MayTakeAll plan w source chunks →
    AllAllowed plan w (takes source chunks)
    × HasTaken source chunks w (run plan w (takes source chunks))

-- A round of flushes is allowed, and ends with the partitions flushed
abbrev pub RoundsOfFlushes : Type 0
RoundsOfFlushes =
    (plan : Stages) → IsStages plan → (w : World) (k : ℕ) (join : JoinStage)
    (parts : List Flushed) → MayFlushAll plan w k join parts →
    AllAllowed plan w (flushing k parts) × HasFlushed k parts w (run plan w (flushing k parts))
