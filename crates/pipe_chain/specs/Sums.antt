-- Sums over lists, and lists that have the same items.
use Rattle.std.specs.Prelude.{◌≡◌, ℕ, ◌+◌, List, [], ◌∷◌, cond, eqb}

-- what the items weigh together
abbrev pub total : {A : Type 0} → (A → ℕ) → List A → ℕ
total weight [] = 0
total weight (x ∷ xs) = weight x + total weight xs

-- 1 where x is k, else 0
abbrev pub one_at : ℕ → ℕ → ℕ
one_at k x = cond (eqb x k) 1 0

-- how often k stands in the list
abbrev pub times : ℕ → List ℕ → ℕ
times k xs = total (one_at k) xs

-- each item stands in both lists equally often: whatever the items weigh, both lists weigh the same
abbrev pub SameItems : {A : Type 0} → List A → List A → Type 0
SameItems {A} xs ys = (weight : A → ℕ) → total weight xs ≡ total weight ys
