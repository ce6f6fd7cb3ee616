-- What is known of what runs legs: the tables of joins, and the sinks that legs feed.
use Rattle.std.specs.Prelude.{ℕ, List}
use Rattle.pipe_driver.specs.declared.branch.SinkAt.{SinkAt}
use Rattle.pipe_driver.specs.Meaning.{Meaning}
use Rattle.pipe_driver.specs.Legs.{Leg}
use Rattle.pipe_driver.specs.State.{World}

pub record RunnerWords (R S P : Type 0) : Type 1 where
  -- a source has the rows of a node
  pub brings : S → Meaning → ℕ → Type 0
  -- a part is that of a leg that begins at a node
  pub stands : P → Meaning → (start : ℕ) → Leg → Type 0
  -- this is what the runner has
  pub fits : R → Meaning → World → Type 0
  -- the leg that runs still has these nodes before it, and then this sink
  pub before : R → List ℕ → SinkAt → Type 0
  -- no leg runs
  pub idle : R → Type 0
  -- a leg has fed this sink, which isn't finished
  pub holds : R → SinkAt → Type 0
