-- The journal of a run beside the driver's state, for each plan of which the run may be.
use Rattle.std.specs.Prelude.{◌≡◌, ℕ, List, [], ◌∷◌, Bool, true, Option, Some, None, length}
use Rattle.std.specs.List.{AllByRecursion}
use Rattle.pipe_ops.specs.Batches.{Left}
use Rattle.pipe_source.specs.Supplies.{left_of}
use Rattle.pipe_source.specs.declared.phys_source.PhysSource.{PhysSource}
use Rattle.pipe_events.specs.Stages.{Stages, JoinStage, Joined, flushes, flushes_by}
use Rattle.pipe_events.specs.Worlds.{Event}
use Rattle.pipe_events.specs.Runs.{supply}
use Rattle.pipe_run.specs.NotedRounds.{AreSupplied}
use Rattle.pipe_driver.specs.declared.branch.SinkAt.{SinkAt}
use Rattle.pipe_driver.specs.Meaning.{Meaning}
use Rattle.pipe_driver.specs.Legs.{Way, sink_node}
use Rattle.pipe_driver.specs.declared.pipe_line.Leg.{Leg}
use Rattle.pipe_driver.specs.declared.run.Next.{Next}
use Rattle.pipe_driver.specs.declared.run.Next.TheVariants.{GoOn, Stay, Answer}
use Rattle.pipe_driver.specs.State.{nothing, is_sink}
use Rattle.pipe_driver.specs.Lines.{Task, way_as, ways_as, counts_as}
use Rattle.pipe_driver.specs.Runs.{parked_ways, sink_of}
use Rattle.pipe_driver.specs.Boards.{Board, IsBoard, held_at}
use Rattle.pipe_driver.specs.Recorded.{IsNoted, IsSorted}
use Rattle.pipe_engine.specs.Drives.{Line, LineRun}
use Rattle.pipe_engine.specs.Stands.{Settings}
use Rattle.pipe_engine.specs.declared.part.Part.{Part}

-- a plan as the events of a run by some workers see it, and where the leg begins that takes a node's
-- rows
pub record Staging : Type 0 where
  pub stages : Stages
  pub source_of : ℕ → ℕ

-- with what the plan means
abbrev pub board_in : Meaning → Staging → Board
board_in m v = record { stages = v.stages; m = m; source_of = v.source_of }

-- the rows of a sort are taken at the sort itself
pub record IsOwnSource (v : Staging) (m : Meaning) (n : ℕ) : Type 0 where
  pub held : held_at (board_in m v) n ≡ n ∷ []
  pub many : supply v.stages n ≡ length (m.rows n)

-- it is that of the plan that has this meaning and these settings, for a run by so many workers
pub record IsStagingOf {H : Type 0} (x : Settings H) (m : Meaning) (workers : ℕ) (v : Staging) : Type 0
  where
    pub board : IsBoard (board_in m v)
    pub workers_are : v.stages.workers ≡ workers
    pub parts : v.stages.parts ≡ x.parts
    pub sorts : (n : ℕ) → m.is_sort n ≡ true → IsOwnSource v m n
    pub flushing : (n : ℕ) (j : JoinStage) → v.stages.stage n ≡ Joined j →
        flushes j ≡ flushes_by (x.spec_at n).how (x.spec_at n).swapped

-- ---- what pipelines take

-- each leg has the nodes whose rows are taken where it begins
abbrev pub AreTold : {H : Type 0} → Staging → Meaning → (start : ℕ) → List (Leg (Part H)) → Type 0
AreTold v m start [] = Unit {0}
AreTold v m start (leg ∷ legs) =
    (leg.part.scans.items ≡ held_at (board_in m v) start)
    × AreTold v m (sink_node m.ordered leg.at) legs

abbrev pub IsTold : {H : Type 0} → Staging → Meaning → Line H → Type 0
IsTold v m p = AreTold v m p.start p.legs.items

-- a source has the rows of these nodes, frame by frame
abbrev pub IsSupplied : Staging → Meaning → ℕ → Option PhysSource → Type 0
IsSupplied v m start None = ⊥
IsSupplied v m start (Some source) =
    AreSupplied v.stages (held_at (board_in m v) start) (left_of source)

pub record IsListed {H : Type 0} (v : Staging) (m : Meaning) (p : Line H) : Type 0 where
  pub told : IsTold v m p
  pub supplied : IsSupplied v m p.start p.source

-- those that wait, and those that haven't begun
pub record AreListed {H : Type 0} (v : Staging) (m : Meaning) (waiting later : List (Line H)) : Type 0
  where
    pub parked : AllByRecursion (IsTold v m) waiting
    pub todo : AllByRecursion (IsListed v m) later

-- one frame, of which nothing was taken
pub record IsOneFrame (source : PhysSource) : Type 0 where
  pub left : Left
  pub is : left_of source ≡ left ∷ []
  pub whole : left.from ≡ 0

-- ---- what is known of the events that were written, beside the legs that are left

abbrev pub Noted : {H : Type 0} → Staging → Task → LineRun H → (but : ℕ → Bool) → List Way →
    List (Line H) → List Event → Type 0
Noted v k run but live todo events =
    IsNoted (board_in k.m v) (counts_as k run) but live (ways_as k.m.ordered todo) events

-- between two pipelines, or while a leg is counted
pub record NotedBetween {H : Type 0} (v : Staging) (k : Task) (run : LineRun H) (todo : List (Line H))
    (events : List Event) : Type 0 where
  pub noted : Noted v k run nothing (parked_ways k run) todo events
  pub listed : AreListed v k.m run.parked.items todo

-- where a pipeline goes on
pub record NotedBefore {H : Type 0} (v : Staging) (k : Task) (run : LineRun H) (p : Line H)
    (todo : List (Line H)) (events : List Event) : Type 0 where
  pub noted : Noted v k run nothing (way_as k.m.ordered p ∷ parked_ways k run) todo events
  pub sorted : IsSorted k.m (counts_as k run) (way_as k.m.ordered p)
  pub line : IsListed v k.m p
  pub listed : AreListed v k.m run.parked.items todo

-- where a leg has fed a sink
pub record NotedFed {H : Type 0} (v : Staging) (k : Task) (run : LineRun H) (at : SinkAt)
    (todo : List (Line H)) (events : List Event) : Type 0 where
  pub noted : Noted v k run (is_sink (sink_of k at)) (parked_ways k run) todo events
  pub listed : AreListed v k.m run.parked.items todo

-- what may come next
abbrev pub NotedNext : {H : Type 0} → Staging → Task → LineRun H → List (Line H) → List Event →
    Next PhysSource (Part H) → Type 0
NotedNext v k run todo events (GoOn p) = NotedBefore v k run p todo events
NotedNext v k run todo events Stay = NotedBetween v k run todo events
NotedNext v k run todo events (Answer frame) = NotedBetween v k run todo events
