-- What the legs of a checked plan's branches go through.
use Rattle.std.specs.Prelude.{◌≡◌, ℕ, List, length}
use Rattle.std.specs.List.{AllByRecursion}
use Rattle.pipe_plan.specs.Faults.{IsWellFormed}
use Rattle.pipe_driver.specs.Branches.{branches}
use Rattle.pipe_driver.specs.declared.branch.Branch.{Branch}
use Rattle.pipe_driver.specs.declared.branch.SinkAt.{SinkAt}
use Rattle.pipe_driver.specs.declared.branch.SinkNode.{SinkNode}
use Rattle.pipe_check.specs.Checked.{Checked}
use Rattle.pipe_driver.specs.Legs.{legs_from}
use Rattle.pipe_driver.specs.Numbers.{named_sinks, HasNumber}
use Rattle.pipe_driver.specs.Shape.{Begins, kind_at}
use Rattle.pipe_driver.specs.Ways.{AreLegs}
use Rattle.pipe_convert.specs.Nodes.{IsUnder, plan_in, nodes_in, meaning_in}
use Rattle.pipe_convert.specs.Steps.{GoesOn, GoesAlong, IsGiven, last_of}

-- a leg that has the chain of where it begins goes through one node after another, each of which reads
-- the one before, and its sink is given the rows of the last
abbrev pub ChainsLead : Type 0
ChainsLead =
    (plan : Checked) → IsWellFormed (plan_in plan) plan.root → (given : ℕ) (ops : List ℕ)
    (at : SinkAt) → GoesOn plan given ops at
    → GoesAlong plan given ops × IsGiven plan at (last_of given ops)

abbrev pub Numbered : Checked → SinkNode → Type 0
Numbered plan sink = HasNumber (length (nodes_in plan)) (named_sinks (plan_in plan) plan.root) sink

-- a branch begins at a scan, or a union of scans alone, under the root; its legs are chains, and its
-- sinks have their numbers
pub record IsBranch (plan : Checked) (branch : Branch) : Type 0 where
  pub under : IsUnder plan branch.source
  pub begins : kind_at (nodes_in plan) branch.source ≡ Begins
  pub legs : AreLegs (meaning_in plan) branch.source
      (legs_from (length (nodes_in plan)) branch.operators 0 branch.sinks)
  pub numbers : AllByRecursion (Numbered plan) branch.sinks

abbrev pub BranchesAre : Type 0
BranchesAre =
    (plan : Checked) → IsWellFormed (plan_in plan) plan.root
    → AllByRecursion (IsBranch plan) (branches (plan_in plan) plan.root)
