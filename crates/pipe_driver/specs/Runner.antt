-- What a runner of legs does, whatever plan it is of.
use Rattle.std.specs.Prelude.{◌≡◌, ℕ, ◌<◌, List, [], ◌∷◌, true}
use Rattle.pipe_schema.proofs.Weights.{SameBag}
use Rattle.pipe_ops.specs.declared.sink.FinalizedSink.{FinalizedSink}
use Rattle.pipe_ops.specs.declared.sink.FinalizedSink.TheVariants.{Finished, Operator, Source}
use Rattle.pipe_driver.specs.declared.branch.SinkAt.{SinkAt}
use Rattle.pipe_driver.specs.declared.branch.SinkAt.TheVariants as at
use Rattle.pipe_driver.specs.Meaning.{Meaning, OutOf, Into}
use Rattle.pipe_driver.specs.Legs.{Leg, sink_node}
use Rattle.pipe_driver.specs.Ways.{occurs, IsSinkOf}
use Rattle.pipe_driver.specs.Words.{RunnerWords}
use Rattle.pipe_driver.specs.State.{World, Waits, IsBuilt, HasPassed, HasSettled, HasClosed}

-- another world fits, and it came about so
pub record Becomes (fits : World → Type 0) (how : World → Type 0) : Type 0 where
  pub new : World
  pub fit : fits new
  pub is : how new

-- the joins among some nodes are built
abbrev pub AreBuilt : Meaning → World → List ℕ → Type 0
AreBuilt m w ops = (j : ℕ) → 0 < occurs j ops → m.is_join j ≡ true → IsBuilt m j (w.slot j)

-- where a runner fits worlds
abbrev pub Fits : Type 1
Fits = Meaning → World → Type 0

-- a leg that stands for one of the plan goes along the chain of where it begins: then these nodes
-- and this sink are before the runner
abbrev pub RunsLeg : (brings : Meaning → ℕ → Type 0) → (stands : Meaning → ℕ → Leg → Type 0) →
    (old new : Fits) → (before : List ℕ → SinkAt → Type 0) → Type 0
RunsLeg brings stands old new before =
    (m : Meaning) (w : World) (start : ℕ) (leg : Leg) → old m w → stands m start leg
    → brings m start → leg.operators ≡ m.above start → leg.sink ≡ m.above_sink start
    → AreBuilt m w leg.operators
    → Becomes (new m) (HasPassed m start (m.rows start) w) × before leg.operators leg.at

-- the next node is left, since other legs still go through it
abbrev pub Leaves : (node : ℕ) → (old new : Fits) → (before after' : List ℕ → SinkAt → Type 0) →
    Type 0
Leaves node old new before after' =
    (m : Meaning) (w : World) (now : List ℕ) (at : SinkAt) → old m w → before (node ∷ now) at
    → new m w × after' now at

-- the next node is closed, once all rows of its probe side came there
abbrev pub Settles : (node : ℕ) → (old new : Fits) → (before after' : List ℕ → SinkAt → Type 0) →
    Type 0
Settles node old new before after' =
    (m : Meaning) (w : World) (now : List ℕ) (at : SinkAt) → old m w → before (node ∷ now) at
    → m.above node ≡ now
    → (m.is_join node ≡ true → SameBag (w.there (OutOf (m.probed node))) (m.rows (m.probed node)))
    → AreBuilt m w (node ∷ now) → Becomes (new m) (HasSettled m node w) × after' now at

-- the leg ends in its sink
abbrev pub EndsLeg : (old new : Fits) → (before : List ℕ → SinkAt → Type 0) → (idle : Type 0) →
    (holds : SinkAt → Type 0) → Type 0
EndsLeg old new before idle holds =
    (m : Meaning) (w : World) (at : SinkAt) → old m w → before [] at → new m w × idle × holds at

-- what a sink ends as: a frame, the source of what goes on behind a sort, or a table in a slot
abbrev pub EndsAs : {S : Type 0} → (brings : S → Meaning → ℕ → Type 0) → Meaning →
    (old new : World) → SinkAt → FinalizedSink (Unit {0}) S → Type 0
EndsAs brings m old new at.Ordered (Finished frame) =
    SameBag frame.rows (m.below m.ordered) × (new.slot ≡ old.slot)
EndsAs brings m old new at.Ordered (Operator built) = ⊥
EndsAs brings m old new at.Ordered (Source source) = ⊥
EndsAs brings m old new (at.Sort n) (Finished frame) = ⊥
EndsAs brings m old new (at.Sort n) (Operator built) = ⊥
EndsAs brings m old new (at.Sort n) (Source source) =
    brings source m n × (new.slot ≡ old.slot)
EndsAs brings m old new (at.Build n) (Finished frame) = ⊥
EndsAs brings m old new (at.Build n) (Operator built) = IsBuilt m n (new.slot n)
EndsAs brings m old new (at.Build n) (Source source) = ⊥

-- a sink that holds the rows of the node below it is closed
pub record Closes {S : Type 0} (brings : S → Meaning → ℕ → Type 0) (m : Meaning) (old : World)
    (at : SinkAt) (r : FinalizedSink (Unit {0}) S) (new : World) : Type 0 where
  pub closed : HasClosed (sink_node m.ordered at) old new
  pub ends : EndsAs brings m old new at r

abbrev pub Finalizes : {S : Type 0} → (brings : S → Meaning → ℕ → Type 0) → (at : SinkAt) →
    (old new : Fits) → FinalizedSink (Unit {0}) S → Type 0
Finalizes brings at old new r =
    (m : Meaning) (w : World) → old m w → IsSinkOf m (sink_node m.ordered at) at
    → SameBag (w.there (Into (sink_node m.ordered at))) (m.below (sink_node m.ordered at))
    → w.slot (sink_node m.ordered at) ≡ Waits → Becomes (new m) (Closes brings m w at r)

-- ---- when each of it may be done

-- a leg may run
pub record MayRunLeg {R S P : Type 0} (r : RunnerWords R S P) (m : Meaning) (runner : R)
    (source : S) (part : P) : Type 0 where
  pub w : World
  pub start : ℕ
  pub leg : Leg
  pub fits : r.fits runner m w
  pub stands : r.stands part m start leg
  pub brings : r.brings source m start
  pub above : leg.operators ≡ m.above start
  pub above_sink : leg.sink ≡ m.above_sink start
  pub built : AreBuilt m w leg.operators
  pub idle : r.idle runner

-- the leg may leave a node
pub record MayLeave {R S P : Type 0} (r : RunnerWords R S P) (m : Meaning) (runner : R) (node : ℕ) :
    Type 0 where
  pub w : World
  pub now : List ℕ
  pub at : SinkAt
  pub fits : r.fits runner m w
  pub before : r.before runner (node ∷ now) at

-- and settle it, once all rows of its probe side came there
pub record MaySettle {R S P : Type 0} (r : RunnerWords R S P) (m : Meaning) (runner : R)
    (node : ℕ) : Type 0 where
  pub w : World
  pub now : List ℕ
  pub at : SinkAt
  pub fits : r.fits runner m w
  pub before : r.before runner (node ∷ now) at
  pub above : m.above node ≡ now
  pub seen : m.is_join node ≡ true →
      SameBag (w.there (OutOf (m.probed node))) (m.rows (m.probed node))
  pub built : AreBuilt m w (node ∷ now)

-- the leg may end
pub record MayEnd {R S P : Type 0} (r : RunnerWords R S P) (m : Meaning) (runner : R) : Type 0 where
  pub w : World
  pub at : SinkAt
  pub fits : r.fits runner m w
  pub before : r.before runner [] at

-- a sink may be finished
pub record MayFinish {R S P : Type 0} (r : RunnerWords R S P) (m : Meaning) (runner : R)
    (at : SinkAt) : Type 0 where
  pub w : World
  pub fits : r.fits runner m w
  pub idle : r.idle runner
  pub holds : r.holds runner at
  pub is_sink : IsSinkOf m (sink_node m.ordered at) at
  pub rows : SameBag (w.there (Into (sink_node m.ordered at))) (m.below (sink_node m.ordered at))
  pub waits : w.slot (sink_node m.ordered at) ≡ Waits
