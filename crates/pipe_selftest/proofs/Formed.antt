-- The plan of a self-test is well-formed.
use Rattle.std.proofs.Common.{◌≡◌, ℕ, ◌≤◌, None, refl, subst, sym, arith}
use Rattle.pipe_exec.specs.Sound.{IsSoundRun}
use Rattle.pipe_plan.specs.Config.{IsConfig}
use Rattle.pipe_plan.specs.Plan.{Plan}
use Rattle.pipe_plan.specs.Faults.{IsWellFormed}
use Rattle.pipe_selftest.specs.Joins.{config, full_root, inner_root, left_root, plan_from}

pub inner_formed : (start rows : ℕ) → IsWellFormed (plan_from start rows) inner_root
unfolding plan_from
inner_formed start rows = record { few = omega arith; faultless = refl }

pub left_formed : (start rows : ℕ) → IsWellFormed (plan_from start rows) left_root
unfolding plan_from
left_formed start rows = record { few = omega arith; faultless = refl }

pub full_formed : (start rows : ℕ) → IsWellFormed (plan_from start rows) full_root
unfolding plan_from
full_formed start rows = record { few = omega arith; faultless = refl }

good_numbers : IsConfig config
good_numbers = record { some_worker = omega arith; few_workers = omega arith; some_row = omega arith; some_limit = omega arith; small_limit = omega arith }

-- a well-formed plan may be run
pub sound : (plan : Plan) (root start rows : ℕ) → plan ≡ plan_from start rows → IsWellFormed (plan_from start rows) root → IsSoundRun plan root config
sound plan root start rows e h = subst (λ (p : Plan). IsSoundRun p root config) (sym e) (record { numbers = good_numbers; formed = h })
