-- Sums over lists.
use Rattle.std.specs.Prelude.{ℕ, ◌+◌, List, [], ◌∷◌}

-- The sum of a weight over a list: over [2, 3] of the number itself, 5; of 1 an element, the length 2.
abbrev pub total : {X : Type 0} → (X → ℕ) → List X → ℕ
total f [] = 0
total f (x ∷ xs) = f x + total f xs
