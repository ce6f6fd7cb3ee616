-- Nodes of a checked plan.
use Rattle.std.specs.Prelude.{◌≡◌, ℕ, List, true}
use Rattle.pipe_schema.specs.Rows.{Row}
use Rattle.pipe_plan.specs.Node.{Node}
use Rattle.pipe_plan.specs.Plan.{Plan, plan_of}
use Rattle.pipe_plan.specs.PlanRows.{rows_of}
use Rattle.pipe_plan.specs.Under.{is_under}
use Rattle.pipe_driver.specs.Meaning.{Meaning, meaning_of}
use Rattle.pipe_check.specs.Checked.{Checked}

abbrev pub plan_in : Checked → Plan
plan_in plan = plan_of plan.arena

abbrev pub nodes_in : Checked → List Node
nodes_in plan = (plan_in plan).nodes

abbrev pub rows_in : Checked → ℕ → List Row
rows_in plan n = rows_of (plan_in plan) n

-- what it means to whoever runs its branches
abbrev pub meaning_in : Checked → Meaning
meaning_in plan = meaning_of (plan_in plan) plan.root

abbrev pub IsUnder : Checked → ℕ → Type 0
IsUnder plan n = is_under (nodes_in plan) plan.root n ≡ true
