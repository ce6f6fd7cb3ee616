-- The law of sources: chunks joined in order, and then what is left, are the rows.
use Rattle.std.specs.Prelude.{◌≡◌, ℕ, ◌<◌, ◌≤◌, List, ◌++◌, length}
use Rattle.std.specs.List.{flat_map, AllByRecursion}
use Rattle.pipe_schema.specs.Rows.{Row}
use Rattle.pipe_ops.specs.Batches.{Left, batch, after_batch}
use Rattle.pipe_ops.specs.declared.source.Morsel.{Morsel}
use Rattle.pipe_source.specs.Morsels.{morsel_rows}

abbrev pub rows_left : Left → List Row
rows_left left = left.rows

-- the rows of what is left, frame by frame
abbrev pub all_rows : List Left → List Row
all_rows lefts = flat_map rows_left lefts

-- what is given, in order, and what is left then, are what was left
abbrev pub GivenAndLeftAreAll : Type 0
GivenAndLeftAreAll =
    (count size index part : ℕ) (lefts : List Left)
    → flat_map morsel_rows (batch count size index part lefts) ++ all_rows (after_batch count size lefts)
    ≡ all_rows lefts

-- a chunk has a row, and no more than so many
abbrev pub HasUpTo : ℕ → Morsel → Type 0
HasUpTo size morsel = (0 < length (morsel_rows morsel)) × (length (morsel_rows morsel) ≤ size)

abbrev pub ChunksHaveRows : Type 0
ChunksHaveRows =
    (count size index part : ℕ) (lefts : List Left) → 0 < size
    → AllByRecursion (HasUpTo size) (batch count size index part lefts)
