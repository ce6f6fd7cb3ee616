-- Why a run gives no rows.
use Rattle.std.specs.Prelude.{ℕ, ◌≡◌, ◌⊎◌}
use Rattle.pipe_schema.specs.Counts.{Rises}
use Rattle.pipe_plan.specs.Plan.{Plan}
use Rattle.pipe_plan.specs.declared.config.PipeConfig.{PipeConfig}
use Rattle.pipe_plan.specs.declared.error.PipeError.{PipeError}
use Rattle.pipe_plan.specs.declared.error.PipeError.TheVariants as error
use Rattle.pipe_exec.specs.Evaluated.{PlanEndsWith}
use Rattle.pipe_exec.specs.Sound.{CheckCauses, IsSoundRun}

-- a job may be run, and ends with this error: by no memory, a stop, or a node with more rows than its limit
pub record RunFails (plan : Plan) (root : ℕ) (config : PipeConfig) (e : PipeError) : Type 0 where
  pub sound : IsSoundRun plan root config
  pub ends : PlanEndsWith config.row_limit plan root e

-- what an error of a run says of a job
abbrev pub RunCauses : Plan → ℕ → PipeConfig → PipeError → Type 0
RunCauses plan root config e = CheckCauses plan root config e ⊎ RunFails plan root config e

abbrev pub IsMemory : PipeError → Type 0
IsMemory e = e ≡ error.Memory

-- a count hasn't risen
abbrev pub Stays : ℕ → ℕ → Type 0
Stays old new = Rises old new → ⊥
