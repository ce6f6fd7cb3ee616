-- The rows that a sort's sink is given.
use Rattle.std.proofs.Common.{◌≡◌, ℕ, ◌<◌, false, cond, ◌==◌, List, length, ap, ◌∙◌, arith}
use Rattle.pipe_plan.specs.Faults.{IsWellFormed}
use Rattle.pipe_plan.specs.Node as node
use Rattle.pipe_plan.specs.PlanRows.{rows_of}
use Rattle.pipe_plan.specs.declared.ir.SortOptions.{SortOptions}
use Rattle.pipe_check.specs.Checked.{Checked}
use Rattle.pipe_convert.specs.Converted.{IsNode}
use Rattle.pipe_convert.proofs.Granted.{granted}
use Rattle.pipe_driver.specs.Shape.{kind_of, kind_at, below_sink}
use Rattle.pipe_driver.proofs.Tests.{eq-false}
use Rattle.pipe_convert.specs.Nodes.{plan_in, nodes_in, meaning_in}

pub below_sort : (plan : Checked) (n input : ℕ) (by : List (List ℕ)) (options : SortOptions) → IsWellFormed (plan_in plan) plan.root → IsNode plan n (node.Sort input by options) → (meaning_in plan).below n ≡ rows_of (plan_in plan) input
below_sort plan n input by options good at_n =
    let p = plan_in plan in
    let low : n < length (nodes_in plan) = (granted p plan.root n (node.Sort input by options) good at_n.under at_n.is).there in
    let other : (n == length (nodes_in plan)) ≡ false = eq-false n (length (nodes_in plan)) (λ e. omega arith) in
    ap (λ b. cond b (rows_of p plan.root) (rows_of p (below_sink (kind_at (nodes_in plan) n)))) other ∙ ap (λ x. rows_of p (below_sink (kind_of (nodes_in plan) x))) at_n.is
