-- Pieces of a chunk: where each begins and how many rows it has.
use Rattle.std.specs.Prelude.{◌≡◌, ℕ, zero, suc, ◌+◌, ◌-◌, ◌/◌, ◌^◌, ◌<◌, List, [], ◌∷◌, take, drop}
use Rattle.std.specs.List.{flat_map}

-- so many pieces of one size from a place on; the last goes up to the end
abbrev pub pieces_from : (at size count end : ℕ) → List (ℕ × ℕ)
pieces_from at size zero end = []
pieces_from at size (suc zero) end = (at, end - at) ∷ []
pieces_from at size (suc (suc n)) end = (at, size) ∷ pieces_from (at + size) size (suc n) end

-- so many pieces of some rows: each has the whole part of the quotient, the last takes the rest
abbrev pub split_pieces : (rows count : ℕ) → List (ℕ × ℕ)
split_pieces rows count = pieces_from 0 (rows / count) count rows

-- neighbours joined two by two; an odd last one stays
abbrev pub joined : ℕ × ℕ → ℕ × ℕ → ℕ × ℕ
joined p q = (p.0, p.1 + q.1)

abbrev pub joined_pieces : List (ℕ × ℕ) → List (ℕ × ℕ)
joined_pieces [] = []
joined_pieces (p ∷ []) = p ∷ []
joined_pieces (p ∷ q ∷ ps) = joined p q ∷ joined_pieces ps

-- pieces go on from a place to an end, one after another, and none is empty
abbrev pub Covers : (at : ℕ) → List (ℕ × ℕ) → (end : ℕ) → Type 0
Covers at [] end = at ≡ end
Covers at (p ∷ ps) end = (p.0 ≡ at) × (0 < p.1) × Covers (at + p.1) ps end

-- each piece begins where the one before it ends, and the last ends below 2 ^ 32
abbrev pub Adjoin : List (ℕ × ℕ) → Type 0
Adjoin [] = Unit {0}
Adjoin (p ∷ []) = p.0 + p.1 < 2 ^ 32
Adjoin (p ∷ q ∷ ps) = (p.0 + p.1 ≡ q.0) × Adjoin (q ∷ ps)

-- the rows of a piece
abbrev pub piece_of : {X : Type 0} → List X → ℕ × ℕ → List X
piece_of rows p = take p.1 (drop p.0 rows)

-- the rows of some pieces, one after another
abbrev pub rows_in : {X : Type 0} → List X → List (ℕ × ℕ) → List X
rows_in rows pieces = flat_map (piece_of rows) pieces
