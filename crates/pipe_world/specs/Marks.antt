-- Marks of the numbers that stand in a list.
use Rattle.std.specs.Prelude.{◌≡◌, ℕ, List, Bool, false}
use Rattle.pipe_events.specs.Decided.{stands_in}
use Rattle.pipe_plain.specs.Tables.{at_place}

-- each number is marked where it stands in the list, and no other
pub record AreMarked (numbers : List ℕ) (marks : List Bool) : Type 0 where
  pub each : (k : ℕ) → at_place false marks k ≡ stands_in numbers k
