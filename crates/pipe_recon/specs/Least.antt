-- The least partners among pairs of row numbers, one pass over them.
use Rattle.std.specs.Prelude.{◌≡◌, ℕ, ◌<◌, ◌≤◌, ◌==◌, List, [], length, slice_index_or, Option, Some, None, if◌then◌else◌, min}
use Rattle.pipe_schema.specs.Cell.{uint32_cell}
use Rattle.pipe_schema.specs.Rows.{Row}
use Rattle.pipe_column.specs.Series.{cell_at}
use Rattle.pipe_recon.specs.declared.recon.Partner.{Partner}
use Rattle.pipe_recon.specs.declared.recon.Partner.TheVariants.{Matched, Only}

-- the lesser of a row's partner so far and one more
abbrev pub lesser : Partner → ℕ → Partner
lesser (Matched other) row = Matched (min other row)
lesser Only row = Matched row

-- the class of row i after a row and a partner that stand beside each other, where both are there
abbrev pub class_after : ℕ → Option ℕ → Option ℕ → Partner → Partner
class_after i (Some row) (Some partner) class =
    if row == i then lesser class partner else class
class_after i (Some row) None class = class
class_after i None partner class = class

-- among the first n pairs, row i stands beside partner j
pub record Beside (rows partners : List (Option ℕ)) (n i j : ℕ) : Type 0 where
  pub place : ℕ
  pub below : place < n
  pub row : slice_index_or rows place None ≡ Some i
  pub partner : slice_index_or partners place None ≡ Some j

-- a class tells the least number of which this is true, or that there is none
abbrev pub IsLeast : (ℕ → Type 0) → Partner → Type 0
IsLeast P (Matched j) = P j × ((q : ℕ) → P q → j ≤ q)
IsLeast P Only = (q : ℕ) → P q → ⊥

-- the class of each row, by the first n pairs
abbrev pub AreLeast : (rows partners : List (Option ℕ)) → (n : ℕ) → List Partner → Type 0
AreLeast rows partners n classes =
    (i : ℕ) → i < length classes → IsLeast (Beside rows partners n i) (slice_index_or classes i Only)

-- ---- least partners by the rows of a table, whose cells at two places are such pairs

-- a row of a table has number i at a place, and number j at another
pub record BesideIn (rows : List Row) (own other i j : ℕ) : Type 0 where
  pub place : ℕ
  pub below : place < length rows
  pub number : cell_at (slice_index_or rows place []) own ≡ uint32_cell (Some i)
  pub partner : cell_at (slice_index_or rows place []) other ≡ uint32_cell (Some j)

-- the classes of so many rows, by the rows of a table
pub record AreLeastIn (rows : List Row) (own other height : ℕ) (classes : List Partner) : Type 0 where
  pub long : length classes ≡ height
  pub least : (i : ℕ) → i < height → IsLeast (BesideIn rows own other i) (slice_index_or classes i Only)

-- the numbers in a column of a table
pub record AreNumbers (rows : List Row) (place : ℕ) (numbers : List (Option ℕ)) : Type 0 where
  pub long : length numbers ≡ length rows
  pub each : (k : ℕ) → k < length rows
      → cell_at (slice_index_or rows k []) place ≡ uint32_cell (slice_index_or numbers k None)
