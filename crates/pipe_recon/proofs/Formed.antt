-- The plan of a reconciliation is well-formed.
use Rattle.std.proofs.Common.{◌≡◌, ℕ, ◌≤◌, List, refl, arith}
use Rattle.pipe_plan.specs.Faults.{IsWellFormed}
use Rattle.pipe_recon.specs.Codes.{Code}
use Rattle.pipe_recon.specs.JoinPlan.{join_plan, join_root}

pub join_formed : (lefts rights : List Code) → IsWellFormed (join_plan lefts rights) join_root
unfolding join_plan
join_formed lefts rights = record { few = omega arith; faultless = refl }
