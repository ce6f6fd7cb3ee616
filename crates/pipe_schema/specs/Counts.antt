-- Counts of 64 bits that stand still at their last value.
use Rattle.std.specs.Prelude.{◌≡◌, ℕ, Bool, ◌+◌, ◌-◌, ◌^◌, ◌<◌, ◌≤◌, ◌⊎◌, nat_lt, if◌then◌else◌}

-- the last value of a count
abbrev pub last_count : ℕ
last_count = 2 ^ 64 - 1

-- a count that has risen by n, or as far as it can
abbrev pub counted : ℕ → ℕ → ℕ
counted n old = if nat_lt last_count (old + n) then last_count else old + n

-- a count has risen by n, or as far as it can
abbrev pub Counts : ℕ → ℕ → ℕ → Type 0
Counts n old new = (new ≡ old + n) ⊎ (last_count ≤ new)

-- a count has risen, or stands at its last value
abbrev pub Rises : ℕ → ℕ → Type 0
Rises old new = (old < new) ⊎ (last_count ≤ new)

-- a stop check that answers no so many times before it answers yes, with how often it was asked and said yes
pub record Countdown : Type 0 where
  pub left : ℕ
  pub asked : ℕ
  pub yes : ℕ
  pub last_answer : Bool
