-- Why a self-test gives no numbers.
use Rattle.std.specs.Prelude.{ℕ, ◌≡◌, ◌⊎◌}
use Rattle.pipe_driver.specs.Within.{AllWithin}
use Rattle.pipe_exec.specs.Evaluated.{PlanEndsWith}
use Rattle.pipe_plan.specs.Plan.{Plan}
use Rattle.pipe_plan.specs.declared.error.PipeError.{PipeError}
use Rattle.pipe_selftest.specs.Joins.{config, full_root, inner_root, left_root}

-- no node under one of the three joins has more rows than the limit
pub record IsWithin (plan : Plan) : Type 0 where
  pub inner : AllWithin config.row_limit plan inner_root
  pub left : AllWithin config.row_limit plan left_root
  pub full : AllWithin config.row_limit plan full_root

-- a node is one of the three joins
abbrev pub IsJoin : ℕ → Type 0
IsJoin n = (n ≡ inner_root) ⊎ (n ≡ left_root) ⊎ (n ≡ full_root)

-- the run of one of the joins ends so: by no memory, a stop, or a node with more rows than the limit
pub record Ends (plan : Plan) (e : PipeError) : Type 0 where
  pub root : ℕ
  pub is_join : IsJoin root
  pub ends : PlanEndsWith config.row_limit plan root e
