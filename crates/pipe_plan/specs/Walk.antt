-- A value for each node, from the values of the nodes below it.
use Rattle.std.specs.Prelude.{ℕ, zero, suc, ◌==◌, if◌then◌else◌}

-- the values of the nodes below a number, by one walk upwards: the value of node k is made from
-- those of the nodes below k
abbrev pub walk : {X : Type 0} → (none : X) → ((ℕ → X) → ℕ → X) → ℕ → ℕ → X
walk none f zero n = none
walk none f (suc k) n = if n == k then f (walk none f k) k else walk none f k n
