-- Numbers of rows as a word: decimal numbers, a comma between each two.
use Rattle.std.specs.Prelude.{ℕ, ◌==◌, List, [], ◌∷◌, Bool, map, Option, Some, None}
use Rattle.std.specs.List.{slice_split}
use Rattle.pipe_selftest.specs.Words.{start_in}

abbrev pub is_comma : ℕ → Bool
is_comma byte = byte == 44

-- a number before others, where all are there
abbrev pub with_first : Option ℕ → Option (List ℕ) → Option (List ℕ)
with_first None more = None
with_first (Some n) None = None
with_first (Some n) (Some more) = Some (n ∷ more)

abbrev pub all_there : List (Option ℕ) → Option (List ℕ)
all_there [] = Some []
all_there (first ∷ more) = with_first first (all_there more)

-- the numbers that a word is, each of 1 to 20 digits and below 2 ^ 64: of 3,0,12 these three; none of 3, and of 3,-1
abbrev pub heights_in : List ℕ → Option (List ℕ)
heights_in word = all_there (map start_in (slice_split is_comma word))

-- the numbers that are told, where a word tells some
abbrev pub heights_told : Option (List ℕ) → Option (List ℕ)
heights_told None = None
heights_told (Some word) = heights_in word
