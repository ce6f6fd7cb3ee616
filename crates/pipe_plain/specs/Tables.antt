-- Tables: what stands at the numbers of the nodes, as lists.
use Rattle.std.specs.Prelude.{ℕ, List, slice_index_or, map}
use Rattle.std.specs.List.{range_with_len}
use Rattle.pipe_plan.specs.Walk.{walk}

-- the values of a walk at the first nodes
abbrev pub table : {X : Type 0} → (none : X) → ((ℕ → X) → ℕ → X) → ℕ → List X
table none f k = map (walk none f k) (range_with_len 0 k)

-- what stands at a place of a table
abbrev pub at_place : {X : Type 0} → X → List X → ℕ → X
at_place none xs n = slice_index_or xs n none
