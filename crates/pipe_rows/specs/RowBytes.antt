-- Byte strings, told by one width or by where each ends.
use Rattle.std.specs.Prelude.{ℕ, List}
use Rattle.pipe_rows.specs.declared.row_bytes.HeldRows.{HeldRows}
use Rattle.pipe_rows.specs.declared.row_bytes.HeldRows.TheVariants as held

-- the byte strings, however they are told
abbrev pub held_rows : HeldRows → List (List ℕ)
held_rows (held.Even rows) = rows.rows
held_rows (held.Ragged list) = list
