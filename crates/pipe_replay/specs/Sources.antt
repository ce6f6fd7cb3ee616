-- Positions of a source that aren't taken.
use Rattle.std.specs.Prelude.{ℕ, ◌+◌, List, Bool, not}
use Rattle.pipe_events.specs.Decided.{stands_in}

-- whether the i-th position from one on isn't taken
abbrev pub is_fresh : (taken : List ℕ) → (from i : ℕ) → Bool
is_fresh taken from i = not (stands_in taken (from + i))
