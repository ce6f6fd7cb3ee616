-- Values, or byte strings, that one owner has, or that are a part of what several share.
use Rattle.std.specs.Prelude.{ℕ, List}
use Rattle.pipe_column.specs.declared.buffer.Held.{Held}
use Rattle.pipe_column.specs.declared.buffer.Held.TheVariants as values
use Rattle.pipe_column.specs.declared.piece_buffer.HeldPieces.{HeldPieces}
use Rattle.pipe_column.specs.declared.piece_buffer.HeldPieces.TheVariants as pieces

-- the values, wherever they stand
abbrev pub held_values : {T : Type 0} → Held T → List T
held_values (values.Own vector) = vector.items
held_values (values.Shared part) = part

-- the byte strings, wherever they stand
abbrev pub held_pieces : HeldPieces → List (List ℕ)
held_pieces (pieces.Own list) = list
held_pieces (pieces.Shared part) = part
