-- Lists of one value at all places.
use Rattle.std.proofs.Common.{◌≡◌, ℕ, zero, suc, get_or, List, length, replicate, refl, ap}
use Rattle.pipe_plain.specs.Tables.{at_place}

at-replicate : {X : Type 0} (x : X) (n k : ℕ) → get_or (replicate n x) k x ≡ x
at-replicate x zero k = refl
at-replicate x (suc n) zero = refl
at-replicate x (suc n) (suc k) = at-replicate x n k

pub at-blank : {X : Type 0} (x : X) (n : ℕ) → at_place x (replicate n x) ≡ (λ k. x)
at-blank x n = λ i. λ k. at-replicate x n k i

pub long-blank : {X : Type 0} (x : X) (n : ℕ) → length (replicate n x) ≡ n
long-blank x zero = refl
long-blank x (suc n) = ap suc (long-blank x n)

pub ruleset blank_rules = (at-blank, long-blank)
