-- What a stop check was asked, and what it said, by how a call ended.
use Rattle.std.specs.Prelude.{◌≡◌, ◌+◌, ◌≤◌, ◌⊎◌, ℕ, true, Result, Ok, Err}
use Rattle.pipe_schema.specs.Counts.{Counts, last_count}
use Rattle.pipe_schema.specs.declared.stop.StopCheck.{Ghosts as StopWords}
use Rattle.pipe_run.specs.declared.halt.Halt.{Halt}
use Rattle.pipe_run.specs.declared.halt.Halt.TheVariants as halt
use Rattle.pipe_run.specs.declared.stage.LaneFault.{LaneFault}
use Rattle.pipe_run.specs.declared.stage.LaneFault.TheVariants as refusal
use Rattle.pipe_driver.specs.declared.error.RunError.{RunError}
use Rattle.pipe_driver.specs.declared.error.RunError.TheVariants as error

-- why a run ends, by why its lanes ended early
abbrev pub refusal_of : LaneFault → RunError
refusal_of (refusal.TooMany node) = error.TooMany node
refusal_of refusal.Memory = error.Memory

abbrev pub error_of : Halt → RunError
error_of halt.Stopped = error.Stopped
error_of (halt.Refused r) = refusal_of r

-- 1 where the stop check said yes
abbrev pub stop_of : RunError → ℕ
stop_of (error.TooMany node) = 0
stop_of error.Stopped = 1
stop_of error.Memory = 0

abbrev pub stops : {T : Type 0} → Result T RunError → ℕ
stops (Ok value) = 0
stops (Err e) = stop_of e

-- a count has risen by so many at least, or stands at its last value
abbrev pub RisesBy : (least : ℕ) → ℕ → ℕ → Type 0
RisesBy least old new = (old + least ≤ new) ⊎ (last_count ≤ new)

-- where a call ended well, a count has risen by so many at least
abbrev pub RisesOnOk : {T : Type 0} → (least : ℕ) → ℕ → ℕ → Result T RunError → Type 0
RisesOnOk least old new (Ok value) = RisesBy least old new
RisesOnOk least old new (Err e) = Unit {0}

-- where all went well, a stop check was asked so many times at least; it said yes in a call that
-- ended as stopped, once, and in no other; and its last answer is that yes
pub record WasAsked {C T : Type 0} (check : StopWords C) (least : ℕ) (old new : C)
    (result : Result T RunError) : Type 0 where
  pub asked : RisesOnOk least (check.asked old) (check.asked new) result
  pub yes : Counts (stops result) (check.yes old) (check.yes new)
  pub last : result ≡ Err error.Stopped → check.last_answer new ≡ true
