-- Rows that are filled column by column in one buffer, each up to the width that it was given.
use Rattle.std.specs.Prelude.{◌≡◌, ℕ, ◌+◌, ◌-◌, ◌<◌, ◌≤◌, List, [], ◌∷◌, ◌++◌, length, map, take, drop, slice_range, slice_index_or, slice_set}

-- a row that is being filled: the bytes that it has, and how many it will have
pub record OpenRow : Type 0 where
  pub written : List ℕ
  pub width : ℕ

-- the rows of a buffer that are filled up to some cursors, from a start to the first end, from there to the next, and so on
abbrev pub open_rows : ℕ → List ℕ → List ℕ → List ℕ → List OpenRow
open_rows start (cursor ∷ cursors) (end ∷ ends) buffer = record { written = slice_range buffer start cursor; width = end - start } ∷ open_rows end cursors ends buffer
open_rows start _ _ buffer = []

-- each cursor is within its row, and the last row ends with the buffer
abbrev pub AreWithin : ℕ → List ℕ → List ℕ → ℕ → Type 0
AreWithin start [] [] room = start ≡ room
AreWithin start (cursor ∷ cursors) (end ∷ ends) room = (start ≤ cursor) × (cursor ≤ end) × AreWithin end cursors ends room
AreWithin _ _ _ _ = ⊥

-- a row of a width that has no byte yet
abbrev pub unwritten : ℕ → OpenRow
unwritten width = record { written = []; width = width }

abbrev pub open_row_at : List OpenRow → ℕ → OpenRow
open_row_at rows i = slice_index_or rows i (unwritten 0)

-- a row with more bytes
abbrev pub appended : List ℕ → OpenRow → OpenRow
appended bytes row = record row { written = row.written ++ bytes }

-- the rows with more bytes in one of them
abbrev pub appended_at : List OpenRow → ℕ → List ℕ → List OpenRow
appended_at rows i bytes = slice_set rows i (appended bytes (open_row_at rows i))

-- some bytes have room behind those of a row
abbrev pub HasRoom : List ℕ → OpenRow → Type 0
HasRoom bytes row = length row.written + length bytes ≤ row.width

-- the same of a row at a place
abbrev pub HasRoomAt : List OpenRow → ℕ → List ℕ → Type 0
HasRoomAt rows i bytes = HasRoom bytes (open_row_at rows i)

-- a buffer with some bytes written at a place
abbrev pub patched : List ℕ → ℕ → List ℕ → List ℕ
patched buffer at bytes = take at buffer ++ (bytes ++ drop (at + length bytes) buffer)

-- each row has all its bytes
abbrev pub AreFull : List OpenRow → Type 0
AreFull rows = (i : ℕ) → i < length rows → length (open_row_at rows i).written ≡ (open_row_at rows i).width

-- the bytes that a row has
abbrev pub written_of : OpenRow → List ℕ
written_of row = row.written

-- the bytes of each row
abbrev pub written_rows : List OpenRow → List (List ℕ)
written_rows rows = map written_of rows
