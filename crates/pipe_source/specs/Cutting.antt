-- How the function operator cuts a chunk into pieces, and how large the next pieces are.
use Rattle.std.specs.Prelude.{◌≡◌, ℕ, ◌*◌, ◌/◌, min, max, List, [], ◌∷◌, Bool, true, false, ltb, ◌&&◌, ◌||◌, if◌then◌else◌, Option, Some, None}
use Rattle.pipe_ops.specs.Offsets.{split_pieces, joined_pieces}

-- pieces become larger where one made less than half of the chunk's rows and of the rows aimed at
abbrev pub should_grow : (made height aim : ℕ) → Bool
should_grow made height aim = ltb (2 * made) height && ltb (2 * made) aim

-- and smaller where one made more than a quarter of the chunk's rows, or more than twice those aimed at
abbrev pub should_shrink : (made height aim : ℕ) → Bool
should_shrink made height aim = ltb height (4 * made) || ltb (2 * aim) made

-- the size afterwards, between 5 and 2147483648
abbrev pub shrunk_size : (size made height aim : ℕ) → ℕ
shrunk_size size made height aim =
    if should_shrink made height aim then max (size / 2) 5 else size

abbrev pub next_size : (size made height aim : ℕ) → ℕ
next_size size made height aim =
    if should_grow made height aim then min (2 * size) 2147483648
    else shrunk_size size made height aim

-- the pieces that are left, afterwards
abbrev pub next_pieces : (made height aim : ℕ) → List (ℕ × ℕ) → List (ℕ × ℕ)
next_pieces made height aim left =
    if should_grow made height aim then joined_pieces left else left

-- the pieces that are left of a chunk that is begun, or those of a whole chunk of two pieces or more
abbrev pub begun_pieces : (size height : ℕ) → List (ℕ × ℕ) → List (ℕ × ℕ)
begun_pieces size height [] =
    if ltb 1 (height / size) then split_pieces height (height / size) else []
begun_pieces size height (p ∷ ps) = p ∷ ps

-- the first of some pieces, and the others; none of none
abbrev pub IsFirst : List (ℕ × ℕ) → Option (ℕ × ℕ) → List (ℕ × ℕ) → Type 0
IsFirst [] None left = left ≡ []
IsFirst [] (Some p) left = ⊥
IsFirst (q ∷ qs) None left = ⊥
IsFirst (q ∷ qs) (Some p) left = (p ≡ q) × (left ≡ qs)

-- whether no piece is left
abbrev pub is_none_left : List (ℕ × ℕ) → Bool
is_none_left [] = true
is_none_left (p ∷ ps) = false
