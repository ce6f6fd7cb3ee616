-- Lists of keys by their numbers, whatever their order.
use Rattle.std.specs.Prelude.{◌≡◌, ℕ, ◌≤◌, List}
use Rattle.pipe_chain.specs.Sums.{total}

-- each key stands in both lists as often: whatever keys weigh, both lists weigh the same
pub record SameKeys (a b : List ℕ) : Type 0 where
  pub sums : (weight : ℕ → ℕ) → total weight a ≡ total weight b

-- no key stands in the one list more often than in the other
pub record WithinKeys (a b : List ℕ) : Type 0 where
  pub sums : (weight : ℕ → ℕ) → total weight a ≤ total weight b
