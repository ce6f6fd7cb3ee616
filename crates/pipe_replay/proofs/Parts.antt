-- There are partitions, and one number of them for so many workers.
use Rattle.std.proofs.Common.{◌≡◌, ℕ, ◌<◌, ◌≤◌, sym, subst, arith}
use Rattle.std.proofs.lemmas.Nat.{pow_pos}
use Rattle.pipe_rows.specs.Partition.{IsPartitionCount}

pub some-parts : (workers parts : ℕ) → IsPartitionCount workers parts → 0 < parts
some-parts workers parts is = subst (λ n. 0 < n) (sym is.is_power) (pow_pos is.exponent)

fewer-parts : (workers a b : ℕ) → IsPartitionCount workers a → IsPartitionCount workers b → a ≤ b
fewer-parts workers a b h k = subst (λ p. a ≤ p) (sym k.is_power) (h.smallest k.exponent (subst (λ p. workers ≤ p) k.is_power k.enough))

pub same-parts : (workers a b : ℕ) → IsPartitionCount workers a → IsPartitionCount workers b → a ≡ b
same-parts workers a b h k = let low = fewer-parts workers a b h k in let high = fewer-parts workers b a k h in omega (arith, low, high)
