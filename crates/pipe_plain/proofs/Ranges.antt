-- The numbers that are left of a range.
use Rattle.std.proofs.Common.{◌≡◌, ℕ, zero, suc, ◌+◌, ◌-◌, ◌<◌, ◌≤◌, [], ◌∷◌, ap, arith}
use Rattle.std.specs.List.{range_with_len}

pub range-next : (m n : ℕ) → m < n → range_with_len m (n - m) ≡ m ∷ range_with_len (m + 1) (n - (m + 1))
range-next m n lt = let e : n - m ≡ suc (n - (m + 1)) = omega arith in ap (range_with_len m) e

pub range-none : (m n : ℕ) → n ≤ m → range_with_len m (n - m) ≡ []
range-none m n le = let e : n - m ≡ zero = omega arith in ap (range_with_len m) e

pub ruleset range_rules = (range-next, range-none)
