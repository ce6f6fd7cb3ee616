-- What a journal tells beside a run, leg by leg: which nodes were run and which sides are closed, as
-- the legs that are left say.
use Rattle.std.specs.Prelude.{◌≡◌, ℕ, ◌+◌, ◌<◌, ◌≤◌, List, [], Bool, true, false, ◌==◌, if◌then◌else◌, Some}
use Rattle.std.specs.List.{AllByRecursion}
use Rattle.pipe_events.specs.Stages.{JoinStage, Stage, Stages, Scan, Each, Union, Sort, Joined, flushes}
use Rattle.pipe_events.specs.Worlds.{Event, Side, OfSort, OfBuild, OfProbe, count, side_below}
use Rattle.pipe_events.specs.Journals.{world_after, Stands}
use Rattle.pipe_events.specs.Runs.{supply}
use Rattle.pipe_driver.specs.Meaning.{Meaning}
use Rattle.pipe_driver.specs.Legs.{Way}
use Rattle.pipe_driver.specs.Ways.{begun}
use Rattle.pipe_driver.specs.State.{Counts}
use Rattle.pipe_driver.specs.Boards.{Board}

-- A journal whose events are allowed where they stand. Some nodes were run: all their positions were
-- taken, and their partitions flushed; and none of any other node. Some sides are closed
pub record IsRecorded (plan : Stages) (ran : ℕ → Bool) (closed : ℕ → Side → Bool)
    (events : List Event) : Type 0 where
  pub stands : Stands plan events
  pub taken : (n : ℕ) → ran n ≡ true → (p : ℕ) → p < supply plan n →
      1 ≤ count p ((world_after plan events).taken n)
  pub untaken : (n : ℕ) → ran n ≡ false → (world_after plan events).taken n ≡ []
  pub flushed : (n : ℕ) (j : JoinStage) → plan.stage n ≡ Joined j → flushes j ≡ true →
      ran n ≡ true → (p : ℕ) → p < plan.parts →
      1 ≤ count p ((world_after plan events).flushed n)
  pub unflushed : (n : ℕ) → ran n ≡ false → (world_after plan events).flushed n ≡ []
  pub sides : (n : ℕ) (side : Side) (t : ℕ) → side_below (plan.stage n) side ≡ Some t →
      (world_after plan events).closed t ≡ closed n side

-- ---- by the legs that are left

-- how many legs begin at a node, of those that have begun and wait and those that haven't
abbrev pub begun_in : (live todo : List Way) → ℕ → ℕ
begun_in live todo n = begun n live + begun n todo

-- how many legs are left that bring rows of a node's own: those that take them at a source, or go
-- through a join
abbrev pub left_at : Board → Counts → (begun : ℕ → ℕ) → ℕ → Stage → ℕ
left_at b c begun n (Scan rows) = begun (b.source_of n)
left_at b c begun n (Each input op) = 0
left_at b c begun n (Union inputs) = 0
left_at b c begun n (Sort input sorted) = begun (b.source_of n)
left_at b c begun n (Joined j) = c.probers n

abbrev pub was_run : Board → Counts → (live todo : List Way) → ℕ → Bool
was_run b c live todo n = left_at b c (begun_in live todo) n (b.stages.stage n) == 0

-- a side is closed once no leg is left that brings rows to it; the sink that was just fed isn't yet
abbrev pub is_shut : Counts → (but : ℕ → Bool) → ℕ → Side → Bool
is_shut c but n OfSort = if but n then false else c.sinks n == 0
is_shut c but n OfBuild = if but n then false else c.sinks n == 0
is_shut c but n OfProbe = c.probers n == 0

abbrev pub BeginsAtNoSort : Meaning → Way → Type 0
BeginsAtNoSort m p = m.is_sort p.start ≡ false

-- The journal of a run of which these legs are left
pub record IsNoted (b : Board) (c : Counts) (but : ℕ → Bool) (live todo : List Way)
    (events : List Event) : Type 0 where
  pub recorded : IsRecorded b.stages (was_run b c live todo) (is_shut c but) events
  -- as long as a sink is fed, the leg behind the sort hasn't run, and some leg hasn't gone through the
  -- join
  pub sorts : (n : ℕ) → b.m.is_sort n ≡ true → 0 < c.sinks n → 0 < begun_in live todo n
  pub joins : (n : ℕ) → b.m.is_join n ≡ true → 0 < c.sinks n → 0 < c.probers n
  -- no branch begins at a sort
  pub fresh : AllByRecursion (BeginsAtNoSort b.m) todo

-- where a way begins at a sort, that is closed
abbrev pub IsSorted : Meaning → Counts → Way → Type 0
IsSorted m c p = m.is_sort p.start ≡ true → c.sinks p.start ≡ 0
