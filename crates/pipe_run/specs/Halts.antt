-- How often a stop check said yes, by the answer.
use Rattle.std.specs.Prelude.{ℕ, Result, Ok, Err}
use Rattle.pipe_run.specs.declared.halt.Halt.{Halt}
use Rattle.pipe_run.specs.declared.halt.Halt.TheVariants.{Stopped, Refused}

-- 1 where the stop check said yes
abbrev pub stop_of : Halt → ℕ
stop_of Stopped = 1
stop_of (Refused r) = 0

abbrev pub stops : {T : Type 0} → Result T Halt → ℕ
stops (Ok value) = 0
stops (Err halt) = stop_of halt
