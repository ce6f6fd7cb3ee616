-- Encoded rows: for each row its bytes, and whether one of its cells was null.
use Rattle.std.specs.Prelude.{◌≡◌, ℕ, List, [], ◌∷◌, Bool, false, length, map, slice_index_or}
use Rattle.pipe_column.specs.Columns.{column_rows, height_of}
use Rattle.pipe_schema.specs.Rows.{Row}
use Rattle.pipe_column.specs.Series.{Cells}
use Rattle.pipe_rows.specs.Equality.{equality_row, has_null_cell}

-- an encoded row as its reader sees it
pub record Encoded : Type 0 where
  pub bytes : List ℕ
  pub has_null : Bool

-- a row under the equality encoding
abbrev pub equality_encoded : Row → Encoded
equality_encoded row = record { bytes = equality_row row; has_null = has_null_cell row }

-- bytes of a row without a null
abbrev pub unmarked : List ℕ → Encoded
unmarked bytes = record { bytes = bytes; has_null = false }

-- byte strings, each with a mark whether a cell of its row was null
abbrev pub marked_rows : List (List ℕ) → List Bool → List Encoded
marked_rows (bytes ∷ rows) (mark ∷ marks) = record { bytes = bytes; has_null = mark } ∷ marked_rows rows marks
marked_rows _ _ = []

-- the encoded row at a place
abbrev pub encoded_at : List Encoded → ℕ → Encoded
encoded_at rows i = slice_index_or rows i (unmarked [])

-- the rows of some columns under the equality encoding
abbrev pub equality_rows : List Cells → List Encoded
equality_rows columns = map equality_encoded (column_rows columns (height_of columns))

-- a number is how many bytes there are
abbrev pub IsLengthOf : List ℕ → ℕ → Type 0
IsLengthOf bytes n = n ≡ length bytes
