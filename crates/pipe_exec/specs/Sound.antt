-- Which jobs may be run, and why others are refused: the numbers are looked at first, and then the plan.
use Rattle.std.specs.Prelude.{ℕ, ◌≡◌, ◌⊎◌, Some}
use Rattle.pipe_check.specs.Checked.{check_fault}
use Rattle.pipe_plan.specs.Config.{IsConfig}
use Rattle.pipe_plan.specs.Faults.{IsWellFormed}
use Rattle.pipe_plan.specs.Plan.{Plan}
use Rattle.pipe_plan.specs.declared.config.PipeConfig.{PipeConfig}
use Rattle.pipe_plan.specs.declared.error.PipeError.{PipeError}
use Rattle.pipe_plan.specs.declared.error.PipeError.TheVariants as error

-- the numbers are good, and the plan is well-formed
pub record IsSoundRun (plan : Plan) (root : ℕ) (config : PipeConfig) : Type 0 where
  pub numbers : IsConfig config
  pub formed : IsWellFormed plan root

-- a number is out of its range
pub record HasBadNumber (config : PipeConfig) (e : PipeError) : Type 0 where
  pub bad : IsConfig config → ⊥
  pub told : e ≡ error.BadConfig

-- the numbers are good, and the plan has this fault
pub record HasFault (plan : Plan) (root : ℕ) (config : PipeConfig) (e : PipeError) : Type 0 where
  pub numbers : IsConfig config
  pub told : check_fault plan root ≡ Some e

-- the error by which a job is refused
abbrev pub IsRefusedRun : Plan → ℕ → PipeConfig → PipeError → Type 0
IsRefusedRun plan root config e = HasBadNumber config e ⊎ HasFault plan root config e

-- what an error of the check says of a job: why it is refused, or want of memory
abbrev pub CheckCauses : Plan → ℕ → PipeConfig → PipeError → Type 0
CheckCauses plan root config e = (e ≡ error.Memory) ⊎ IsRefusedRun plan root config e
