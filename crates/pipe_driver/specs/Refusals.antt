-- What a runner of legs tells of a plan, where it refuses to go on.
use Rattle.std.specs.Prelude.{◌≡◌, ℕ, ◌⊎◌, List, [], ◌∷◌, true}
use Rattle.pipe_schema.proofs.Weights.{SameBag}
use Rattle.pipe_driver.specs.declared.branch.SinkAt.{SinkAt}
use Rattle.pipe_driver.specs.Meaning.{Meaning, OutOf}
use Rattle.pipe_driver.specs.Legs.{Leg}
use Rattle.pipe_driver.specs.State.{World, HasPassed, HasSettled}
use Rattle.pipe_driver.specs.Runner.{AreBuilt, Fits}
use Rattle.pipe_driver.specs.Within.{GoThroughRun, GivesMany, IsWide}
use Rattle.pipe_driver.specs.declared.error.RunError.{RunError}
use Rattle.pipe_driver.specs.declared.error.RunError.TheVariants as error

-- in a world that comes about so, more rows than the limit come out of a node
pub record ComesToMany (m : Meaning) (limit : ℕ) (how : World → Type 0) (n : ℕ) : Type 0 where
  pub new : World
  pub is : how new
  pub gives : GivesMany m limit new n

-- what a refusal says of the rows that came
abbrev pub Refuses : Meaning → (limit : ℕ) → (how : World → Type 0) → RunError → Type 0
Refuses m limit how (error.TooMany n) = ComesToMany m limit how n
Refuses m limit how error.Stopped = Unit {0}
Refuses m limit how error.Memory = Unit {0}

abbrev pub Is : World → World → Type 0
Is w new = new ≡ w

abbrev pub IsOrSettles : Meaning → (node : ℕ) → World → World → Type 0
IsOrSettles m node w new = (new ≡ w) ⊎ HasSettled m node w new

-- rows of a leg went a part of their way
abbrev pub RefusesLeg : (brings : Meaning → ℕ → Type 0) → (stands : Meaning → ℕ → Leg → Type 0) →
    (old : Fits) → (limit : ℕ) → RunError → Type 0
RefusesLeg brings stands old limit e =
    (m : Meaning) (w : World) (start : ℕ) (leg : Leg) → old m w → stands m start leg
    → brings m start → leg.operators ≡ m.above start → leg.sink ≡ m.above_sink start
    → AreBuilt m w leg.operators → Refuses m limit (HasPassed m start (m.rows start) w) e

-- a leg can't leave its next node, since those that it comes from gave too much
abbrev pub RefusesNode : (node : ℕ) → (old : Fits) → (before : List ℕ → SinkAt → Type 0) →
    (limit : ℕ) → RunError → Type 0
RefusesNode node old before limit e =
    (m : Meaning) (w : World) (now : List ℕ) (at : SinkAt) → old m w → before (node ∷ now) at
    → Refuses m limit (Is w) e

-- nor settle it, since that gives too much
abbrev pub RefusesSettling : (node : ℕ) → (old : Fits) → (before : List ℕ → SinkAt → Type 0) →
    (limit : ℕ) → RunError → Type 0
RefusesSettling node old before limit e =
    (m : Meaning) (w : World) (now : List ℕ) (at : SinkAt) → old m w → before (node ∷ now) at
    → m.above node ≡ now
    → (m.is_join node ≡ true → SameBag (w.there (OutOf (m.probed node))) (m.rows (m.probed node)))
    → AreBuilt m w (node ∷ now) → Refuses m limit (IsOrSettles m node w) e

-- nor end
abbrev pub RefusesEnd : (old : Fits) → (before : List ℕ → SinkAt → Type 0) → (limit : ℕ) →
    RunError → Type 0
RefusesEnd old before limit e =
    (m : Meaning) (w : World) (at : SinkAt) → old m w → before [] at → Refuses m limit (Is w) e

-- what an error says of a plan whose chains are of nodes that are run
abbrev pub Tells : Meaning → (limit : ℕ) → RunError → Type 0
Tells m limit (error.TooMany n) = GoThroughRun m → IsWide m limit n
Tells m limit error.Stopped = Unit {0}
Tells m limit error.Memory = Unit {0}
