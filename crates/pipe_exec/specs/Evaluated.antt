-- What the frame of a plan has to be, and why there is none.
use Rattle.std.specs.Prelude.{◌≡◌, ℕ, List, true, Result, Ok, Err}
use Rattle.pipe_schema.specs.Rows.{Row, Same}
use Rattle.pipe_plan.specs.Plan.{Plan}
use Rattle.pipe_plan.specs.PlanRows.{rows_of}
use Rattle.pipe_plan.specs.Under.{node_at}
use Rattle.pipe_plan.specs.declared.error.PipeError.{PipeError}
use Rattle.pipe_plan.specs.declared.error.PipeError.TheVariants as error
use Rattle.pipe_driver.specs.Within.{HasTooMany}
use Rattle.pipe_driver.specs.declared.error.RunError.{RunError}
use Rattle.pipe_driver.specs.declared.error.RunError.TheVariants as run_error
use Rattle.pipe_lines.specs.Made.{sorts_rows}

-- the rows of a node, each as often; where it is a sort, in its order
pub record HasRowsOf (plan : Plan) (n : ℕ) (rows : List Row) : Type 0 where
  pub same : Same rows (rows_of plan n)
  pub in_order : sorts_rows (node_at plan.nodes n) ≡ true → rows ≡ rows_of plan n

-- what an error says of a plan that is well-formed: no memory, a stop, or a node with too many rows
abbrev pub PlanEndsWith : ℕ → Plan → ℕ → PipeError → Type 0
PlanEndsWith limit plan root error.BadConfig = ⊥
PlanEndsWith limit plan root (error.BadNode n) = ⊥
PlanEndsWith limit plan root (error.UnknownColumn n name) = ⊥
PlanEndsWith limit plan root (error.DuplicateName n name) = ⊥
PlanEndsWith limit plan root (error.TypeMismatch n) = ⊥
PlanEndsWith limit plan root (error.BadJoin n) = ⊥
PlanEndsWith limit plan root (error.BadSort n) = ⊥
PlanEndsWith limit plan root (error.TooMany n) = HasTooMany limit plan root n
PlanEndsWith limit plan root error.Stopped = Unit {0}
PlanEndsWith limit plan root error.Memory = Unit {0}

-- why pipelines weren't run to their end, as an error of the plan
abbrev pub error_of : RunError → PipeError
error_of (run_error.TooMany n) = error.TooMany n
error_of run_error.Stopped = error.Stopped
error_of run_error.Memory = error.Memory

-- 1 where the stop check said yes
abbrev pub stop_of : PipeError → ℕ
stop_of error.BadConfig = 0
stop_of (error.BadNode n) = 0
stop_of (error.UnknownColumn n name) = 0
stop_of (error.DuplicateName n name) = 0
stop_of (error.TypeMismatch n) = 0
stop_of (error.BadJoin n) = 0
stop_of (error.BadSort n) = 0
stop_of (error.TooMany n) = 0
stop_of error.Stopped = 1
stop_of error.Memory = 0

abbrev pub stops : {T : Type 0} → Result T PipeError → ℕ
stops (Ok value) = 0
stops (Err e) = stop_of e
