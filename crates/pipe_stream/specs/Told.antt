-- What a writer in memory tells while there is room.
use Rattle.std.specs.Prelude.{ℕ, List, ◌++◌, ◌+◌, length, nat_le, Option, Some, None, if◌then◌else◌}
use Rattle.pipe_stream.specs.Outside.{OutputSeen}

-- how many bytes are told at most, and what was written, while it is told
pub record Told : Type 0 where
  pub room : ℕ
  pub told : Option (List ℕ)

-- one more piece, for which there is room or not
abbrev pub joined : ℕ → Option (List ℕ) → List ℕ → Option (List ℕ)
joined room None piece = None
joined room (Some told) piece = if nat_le (length told + length piece) room then Some (told ++ piece) else None

-- after one more piece
abbrev pub told_after : Told → List ℕ → Told
told_after t piece = record { room = t.room; told = joined t.room t.told piece }

-- what is known of such a writer
abbrev pub sure_output : Told → OutputSeen
sure_output t = record { written = t.told; faults = 0 }
