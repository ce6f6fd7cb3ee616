-- The front part of the branches that one call runs.
use Rattle.std.specs.Prelude.{◌≡◌, ℕ, suc, ◌<◌, ◌≤◌, ◌⊎◌, List, [], ◌∷◌, ◌++◌, Option, Some, None, take, drop, map}
use Rattle.pipe_frame.specs.Frame.{Table}
use Rattle.pipe_driver.specs.Legs.{Way}
use Rattle.pipe_driver.specs.Ways.{occurs, feeds}
use Rattle.pipe_driver.specs.declared.pipe_line.PipeLine.{PipeLine}
use Rattle.pipe_driver.specs.declared.run.Run.{Run}
use Rattle.pipe_driver.specs.Words.{RunnerWords}
use Rattle.pipe_driver.specs.Lines.{Task, way_as, ways_as}
use Rattle.pipe_driver.specs.Runs.{Between, Ready, IsAnswer, waits_at, parked_ways}

-- no later branch feeds a sink that a branch of the front part feeds
abbrev pub IsClosed : List Way → List Way → Type 0
IsClosed front later = (s : ℕ) → 0 < feeds s front → feeds s later ≡ 0

-- The sinks that were fed are of branches of the front part; what such a branch feeds was fed, or
-- is still to be fed by a way that has begun; each way that waits does so at a sink that was fed
pub record IsFront (front : List Way) (fed : List ℕ) (live parked : List Way) : Type 0 where
  pub of_front : (s : ℕ) → 0 < occurs s fed → 0 < feeds s front
  pub covered : (s : ℕ) → 0 < feeds s front → (0 < occurs s fed) ⊎ (0 < feeds s live)
  pub begun : (s : ℕ) → 0 < feeds s live → 0 < feeds s front
  pub waits : (n : ℕ) → 0 < waits_at n parked → 0 < occurs n fed

-- the numbers of the sinks that a pipeline, and those that went on behind it, have fed
pub record FedMore {R S P : Type 0} (k : Task) (p : PipeLine S P) (old new : Run R S P)
    (fed fed' : List ℕ) : Type 0 where
  pub more : List ℕ
  pub is : fed' ≡ fed ++ map k.number more
  pub front : (front : List Way) (fs : List ℕ) →
      IsFront front fs (way_as k.m.ordered p ∷ parked_ways k old) (parked_ways k old) →
      IsFront front (fs ++ more) (parked_ways k new) (parked_ways k new)

-- the same where one of them goes on
pub record FedOn {R S P : Type 0} (k : Task) (p : PipeLine S P) (old new : Run R S P)
    (current : PipeLine S P) (fed fed' : List ℕ) : Type 0 where
  pub more : List ℕ
  pub is : fed' ≡ fed ++ map k.number more
  pub front : (front : List Way) (fs : List ℕ) →
      IsFront front fs (way_as k.m.ordered p ∷ parked_ways k old) (parked_ways k old) →
      IsFront front (fs ++ more) (way_as k.m.ordered current ∷ parked_ways k new)
      (parked_ways k new)

-- the newer answer, where there is one
abbrev pub newer_of : Option Table → Option Table → Option Table
newer_of None answer = answer
newer_of (Some frame) answer = Some frame

-- what one call has done of all branches that hadn't run
pub record HasRunFront {R S P : Type 0} (r : RunnerWords R S P) (k : Task)
    (all : List (PipeLine S P)) (old new : Run R S P) (later : List (PipeLine S P))
    (answer : Option Table) : Type 0 where
  -- so many branches, the first ones
  pub count : ℕ
  pub some : 0 < count
  pub later_is : later ≡ drop count all
  -- no later branch feeds a sink that they feed, and of no shorter front part that is so
  pub closed : IsClosed (take count (ways_as k.m.ordered all)) (ways_as k.m.ordered later)
  pub shortest : (i : ℕ) → 0 < i → i < count →
      IsClosed (take i (ways_as k.m.ordered all)) (drop i (ways_as k.m.ordered all)) → ⊥
  -- the others can run, and none waits
  pub between : Between r k new later
  pub parked : new.parked.items ≡ []
  pub root : IsAnswer k old new answer

-- between two branches of a call
pub record IsOnTheWay {R S P : Type 0} (r : RunnerWords R S P) (k : Task)
    (all : List (PipeLine S P)) (old run : Run R S P) (current : PipeLine S P)
    (later : List (PipeLine S P)) (fed : List ℕ) (answer : Option Table) : Type 0 where
  pub before : ℕ
  pub rest : drop before all ≡ current ∷ later
  pub ready : Ready r k run current later
  pub front : IsFront (take (suc before) (ways_as k.m.ordered all)) fed
      (way_as k.m.ordered current ∷ parked_ways k run) (parked_ways k run)
  pub shortest : (i : ℕ) → 0 < i → i ≤ before →
      IsClosed (take i (ways_as k.m.ordered all)) (drop i (ways_as k.m.ordered all)) → ⊥
  pub root : IsAnswer k old run answer

-- the same, where the sinks that were fed are given by their numbers
pub record IsOnTheWayBy {R S P : Type 0} (r : RunnerWords R S P) (k : Task)
    (all : List (PipeLine S P)) (old run : Run R S P) (current : PipeLine S P)
    (later : List (PipeLine S P)) (numbers : List ℕ) (answer : Option Table) : Type 0 where
  pub fed : List ℕ
  pub numbers_are : numbers ≡ map k.number fed
  pub on : IsOnTheWay r k all old run current later fed answer
