-- Same rows (bags of relational algebra): two lists have the same rows where each row stands in both as often.
use Rattle.std.specs.Prelude.{◌≡◌, ℕ, ◌+◌, ◌≤◌, List, [], ◌∷◌, Bool, if◌then◌else◌, length}
use Rattle.std.specs.Str.{bytes_eq}
use Rattle.std.specs.Cmp.Lexicographic.{pointwise}
use Rattle.pipe_schema.specs.Cell.{eq_cell}
use Rattle.pipe_schema.specs.declared.any_value.AnyValue.{AnyValue}

-- a row is a list of cells
abbrev pub Row : Type 0
Row = List AnyValue

-- a row has so many cells
abbrev pub HasWidth : ℕ → Row → Type 0
HasWidth width row = length row ≡ width

-- whether two rows have the same cells, in order
abbrev pub eq_row : Row → Row → Bool
eq_row a b = pointwise eq_cell a b

-- how often an element stands in a list, by a test of two elements
abbrev pub times : {X : Type 0} → (X → X → Bool) → X → List X → ℕ
times eq x [] = 0
times eq x (y ∷ ys) = (if eq x y then 1 else 0) + times eq x ys

-- each row stands in the one list as often as in the other
pub record Same (a b : List Row) : Type 0 where
  pub each : (row : Row) → times eq_row row a ≡ times eq_row row b

-- no row stands in the one list more often than in the other
pub record Within (a b : List Row) : Type 0 where
  pub each : (row : Row) → times eq_row row a ≤ times eq_row row b

-- each line stands in the one list as often as in the other
pub record SameLines (a b : List (List ℕ)) : Type 0 where
  pub each : (line : List ℕ) → times bytes_eq line a ≡ times bytes_eq line b
