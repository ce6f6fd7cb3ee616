-- Byte strings of one width, one behind the other in one buffer.
use Rattle.std.specs.Prelude.{ℕ, zero, suc, ◌+◌, ◌==◌, ◌&&◌, List, [], ◌∷◌, Bool, true, take, drop}

-- byte strings that all have one width
pub record OfWidth : Type 0 where
  pub width : ℕ
  pub rows : List (List ℕ)

-- so many byte strings of a width, from the front of a buffer
abbrev pub even_rows : ℕ → ℕ → List ℕ → List (List ℕ)
even_rows width zero bytes = []
even_rows width (suc count) bytes = take width bytes ∷ even_rows width count (drop width bytes)

-- whether each end lies a width behind the one before it
abbrev pub are_steps : ℕ → ℕ → List ℕ → Bool
are_steps width start [] = true
are_steps width start (end ∷ ends) = (end == start + width) && are_steps width end ends
