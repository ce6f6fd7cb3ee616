-- What is known of the driver's state, and what its steps do.
use Rattle.std.specs.Prelude.{◌≡◌, ℕ, ◌+◌, ◌≤◌, ◌<◌, ◌⊎◌, List, [], ◌∷◌, ◌++◌, ◌==◌, Option, Some, None}
use Rattle.std.specs.List.{AllByRecursion}
use Rattle.pipe_frame.specs.Frame.{Table}
use Rattle.pipe_schema.specs.Weights.{total}
use Rattle.pipe_schema.proofs.Weights.{SameBag}
use Rattle.pipe_driver.specs.declared.branch.SinkAt.{SinkAt}
use Rattle.pipe_driver.specs.declared.branch.SinkAt.TheVariants as at
use Rattle.pipe_driver.specs.Legs.{Way, sink_node}
use Rattle.pipe_driver.specs.Ways.{one, feeds, IsSinkOf}
use Rattle.pipe_driver.specs.declared.pipe_line.Leg.{Leg}
use Rattle.pipe_driver.specs.declared.pipe_line.PipeLine.{PipeLine}
use Rattle.pipe_driver.specs.declared.run.Run.{Run}
use Rattle.pipe_driver.specs.declared.run.Fed.{Fed}
use Rattle.pipe_driver.specs.declared.run.Next.{Next}
use Rattle.pipe_driver.specs.declared.run.Next.TheVariants.{GoOn, Stay, Answer}
use Rattle.pipe_driver.specs.declared.run.Passing.{Passing}
use Rattle.pipe_driver.specs.Words.{RunnerWords}
use Rattle.pipe_driver.specs.Tables.{number_at}
use Rattle.pipe_driver.specs.State.{World, Waits, IsBetween, IsReady, IsPassing, IsFed}
use Rattle.pipe_driver.specs.Lines.{Task, AreNumbered, way_as, ways_as, counts_as, HasLegs, IsLine, steps_left}

-- ---- waiting pipelines

-- the node of a sink, 0 for the root's
abbrev pub node_of : SinkAt → ℕ
node_of at.Ordered = 0
node_of (at.Sort n) = n
node_of (at.Build n) = n

-- what is left of a pipeline behind a sink: nothing, or one that begins there
abbrev pub IsRest : {S P : Type 0} → ℕ → List (Leg P) → List (PipeLine S P) → Type 0
IsRest n [] rest = rest ≡ []
IsRest {S = S} {P = P} n (leg ∷ legs) rest =
    (q : PipeLine S P) × (q.start ≡ n) × (q.legs.items ≡ leg ∷ legs) × (rest ≡ q ∷ [])

pub record Parks {S P : Type 0} (n : ℕ) (legs : List (Leg P)) (old new : List (PipeLine S P)) :
    Type 0 where
  pub tails : List (PipeLine S P)
  pub is : new ≡ old ++ tails
  pub rest : IsRest n legs tails

pub record Unparks {S P : Type 0} (n : ℕ) (q : PipeLine S P) (old new : List (PipeLine S P)) :
    Type 0 where
  pub before : List (PipeLine S P)
  pub after : List (PipeLine S P)
  pub was : old ≡ before ++ q ∷ after
  pub is : new ≡ before ++ after
  pub start : q.start ≡ n

abbrev pub StartsElsewhere : {S P : Type 0} → ℕ → PipeLine S P → Type 0
StartsElsewhere n q = q.start ≡ n → ⊥

abbrev pub waits_here : ℕ → Way → ℕ
waits_here n q = one (q.start == n)

-- how many ways wait at a sink
abbrev pub waits_at : ℕ → List Way → ℕ
waits_at n ps = total (waits_here n) ps

-- ---- the driver's state

-- what each state has: numbers of sinks, and pipelines that stand for what is left
pub record HasLines {R S P : Type 0} (r : RunnerWords R S P) (k : Task) (run : Run R S P)
    (later : List (PipeLine S P)) : Type 0 where
  pub numbered : AreNumbered k run.counts.left.items
  pub parked : AllByRecursion (HasLegs r k) run.parked.items
  pub todo : AllByRecursion (IsLine r k) later

-- the pipelines that wait, as ways
abbrev pub parked_ways : {R S P : Type 0} → Task → Run R S P → List Way
parked_ways k run = ways_as k.m.ordered run.parked.items

-- the next pipeline may begin
pub record Between {R S P : Type 0} (r : RunnerWords R S P) (k : Task) (run : Run R S P)
    (todo : List (PipeLine S P)) : Type 0 where
  pub w : World
  pub fits : r.fits run.runner k.m w
  pub between : IsBetween k.m w (counts_as k run) (parked_ways k run) (ways_as k.m.ordered todo)
  pub idle : r.idle run.runner
  pub lines : HasLines r k run todo

-- a pipeline may go on
pub record Ready {R S P : Type 0} (r : RunnerWords R S P) (k : Task) (run : Run R S P)
    (p : PipeLine S P) (todo : List (PipeLine S P)) : Type 0 where
  pub w : World
  pub fits : r.fits run.runner k.m w
  pub ready : IsReady k.m w (counts_as k run) (way_as k.m.ordered p) (parked_ways k run)
      (ways_as k.m.ordered todo)
  pub line : IsLine r k p
  pub idle : r.idle run.runner
  pub lines : HasLines r k run todo

abbrev pub sink_of : Task → SinkAt → ℕ
sink_of k at = sink_node k.m.ordered at

-- a leg is in its sink, and isn't counted at these nodes and the sink
pub record Passes {R S P : Type 0} (r : RunnerWords R S P) (k : Task) (run : Run R S P)
    (now : List ℕ) (at : SinkAt) (todo : List (PipeLine S P)) : Type 0 where
  pub w : World
  pub fits : r.fits run.runner k.m w
  pub passing : IsPassing k.m w (counts_as k run) now (sink_of k at) (parked_ways k run)
      (ways_as k.m.ordered todo)
  pub before : r.before run.runner now at
  pub empty : w.slot (sink_of k at) ≡ Waits
  pub lines : HasLines r k run todo

-- a leg has fed a sink
pub record Feeds {R S P : Type 0} (r : RunnerWords R S P) (k : Task) (run : Run R S P)
    (at : SinkAt) (todo : List (PipeLine S P)) : Type 0 where
  pub w : World
  pub fits : r.fits run.runner k.m w
  pub fed : IsFed k.m w (counts_as k run) (sink_of k at) (parked_ways k run)
      (ways_as k.m.ordered todo)
  pub idle : r.idle run.runner
  pub holds : r.holds run.runner at
  pub empty : w.slot (sink_of k at) ≡ Waits
  pub lines : HasLines r k run todo

-- ---- steps

-- one leg less is left, and what waits is of the pipeline that ran
pub record Moved {R S P : Type 0} (k : Task) (p : PipeLine S P) (old new : Run R S P) (s : ℕ) :
    Type 0 where
  pub steps : steps_left new.parked.items < steps_left (p ∷ old.parked.items)
  pub live : (t : ℕ) → feeds t (way_as k.m.ordered p ∷ parked_ways k old)
      ≡ one (s == t) + feeds t (parked_ways k new)
  pub waits : (n : ℕ) → waits_at n (parked_ways k new)
      ≤ waits_at n (parked_ways k old) + one (s == n)

-- a leg's rows have come to its sink
pub record HasLed {R S P : Type 0} (r : RunnerWords R S P) (k : Task) (p : PipeLine S P)
    (old new : Run R S P) (todo : List (PipeLine S P)) (leg : Passing) : Type 0 where
  pub passes : Passes r k new leg.operators.items leg.at todo
  pub at : IsSinkOf k.m (sink_of k leg.at) leg.at
  pub number : leg.count ≡ k.number (sink_of k leg.at)
  pub counts : new.counts ≡ old.counts
  pub moved : Moved k p old new (sink_of k leg.at)

-- a leg of a pipeline has run: the sink that it has fed, and how many legs still feed that
pub record HasRun {R S P : Type 0} (r : RunnerWords R S P) (k : Task) (p : PipeLine S P)
    (old new : Run R S P) (todo : List (PipeLine S P)) (fed : Fed) : Type 0 where
  pub feeds : Feeds r k new fed.at todo
  pub left : number_at new.counts.left.items fed.count ≡ fed.left
  pub at : IsSinkOf k.m (sink_of k fed.at) fed.at
  pub number : fed.count ≡ k.number (sink_of k fed.at)
  pub moved : Moved k p old new (sink_of k fed.at)
  -- the root's sink isn't closed by another
  pub root : (counts_as k new).sinks k.m.ordered ≡ 0 →
      ((counts_as k old).sinks k.m.ordered ≡ 0) ⊎ (sink_of k fed.at ≡ k.m.ordered)

-- what may come next; only the root's sink gives the answer
abbrev pub IsNext : {R S P : Type 0} → RunnerWords R S P → Task → Run R S P → Run R S P →
    List (PipeLine S P) → ℕ → Next S P → Type 0
IsNext r k old new todo s (GoOn p) =
    Ready r k new p todo × (steps_left (p ∷ new.parked.items) ≤ steps_left old.parked.items)
    × (new.counts ≡ old.counts) × (s ≡ k.m.ordered → ⊥)
    × ((t : ℕ) → feeds t (way_as k.m.ordered p ∷ parked_ways k new) ≡ feeds t (parked_ways k old))
    × ((n : ℕ) → waits_at n (parked_ways k new) ≤ waits_at n (parked_ways k old))
IsNext r k old new todo s Stay =
    Between r k new todo × (new.counts ≡ old.counts) × (s ≡ k.m.ordered → ⊥)
    × (new.parked.items ≡ old.parked.items)
IsNext r k old new todo s (Answer frame) =
    Between r k new todo × SameBag frame.rows (k.m.below k.m.ordered)
    × (new.parked.items ≡ old.parked.items)

-- the root's sink is closed no earlier than the answer is there
abbrev pub KeepsRoot : {R S P : Type 0} → Task → Run R S P → Run R S P → Type 0
KeepsRoot k old new =
    (counts_as k new).sinks k.m.ordered ≡ 0 → (counts_as k old).sinks k.m.ordered ≡ 0

abbrev pub IsAnswer : {R S P : Type 0} → Task → Run R S P → Run R S P → Option Table → Type 0
IsAnswer k old new None = KeepsRoot k old new
IsAnswer k old new (Some frame) = SameBag frame.rows (k.m.below k.m.ordered)

-- a pipeline has come to an open sink, or to the last one
pub record HasStopped {R S P : Type 0} (r : RunnerWords R S P) (k : Task) (old new : Run R S P)
    (todo : List (PipeLine S P)) (answer : Option Table) : Type 0 where
  pub between : Between r k new todo
  pub root : IsAnswer k old new answer
