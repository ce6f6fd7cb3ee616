-- The smallest power of two that isn't below a number.
use Rattle.std.proofs.Common.{◌≡◌, ℕ, zero, suc, ◌*◌, ◌/◌, ◌^◌, ◌<◌, ◌≤◌, ◌∙◌, arith}
use Rattle.std.specs.Prelude.{max}
use Rattle.std.specs.Ordering.{nat_cmp, MatchOrdering}
use Rattle.std.specs.Cmp.{ranks}
use Rattle.std.specs.declared.cmp.Ordering.{Ordering}
use Rattle.std.specs.declared.cmp.Ordering.TheVariants.{Less, Equal, Greater}
use Rattle.std.proofs.Math.Nat.{pow-suc, pow-le-pow_right, one-le-pow}

-- a power whose half is below another power is at most that
half_below : (j other : ℕ) → 2 ^ j < 2 ^ other → 2 ^ suc j ≤ 2 ^ other
half_below j other h =
    let two : 0 < 2 = omega arith in
    let split : (o : Ordering) → MatchOrdering o (other < suc j) (other ≡ suc j) (suc j < other) → 2 ^ suc j ≤ 2 ^ other =
    elim [
      | Less ↦ λ lt. absurd (let le : other ≤ j = omega arith in let rises : 2 ^ other ≤ 2 ^ j = pow-le-pow_right two le in omega arith)
      | Equal ↦ λ e. (let le : suc j ≤ other = omega arith in pow-le-pow_right two le)
      | Greater ↦ λ lt. (let le : suc j ≤ other = omega arith in pow-le-pow_right two le)
    ]
    in split (nat_cmp other (suc j)) (ranks other (suc j))

pub smallest_power : (k p workers : ℕ) → p ≡ 2 ^ k → p / 2 < max 1 workers → (other : ℕ) → workers ≤ 2 ^ other → p ≤ 2 ^ other
smallest_power zero p workers e below other enough =
    let one : 1 ≤ 2 ^ other = one-le-pow other 2 (omega arith) in
    let is : p ≡ 1 = e in omega arith
smallest_power (suc j) p workers e below other enough =
    let one : 1 ≤ 2 ^ other = one-le-pow other 2 (omega arith) in
    let twice : p ≡ 2 ^ j * 2 = e ∙ pow-suc 2 j in
    let half : 2 ^ j < 2 ^ other = omega arith in
    rw e (half_below j other half)
