use Rattle.std.proofs.Common.{◌≡◌, true, subst}
use Rattle.pipe_plan.specs.Plan.{plan_of}
use Rattle.pipe_plan.specs.Under.{is_under}
use Rattle.pipe_check.specs.Checked.{Checked}
use Rattle.pipe_check.proofs.WellFormed.{root_under}
use Rattle.pipe_check.proofs.checked_plan.CheckedPlan.root.Goals as goal

pub returns-clause-under : goal.returns-clause-under
returns-clause-under c =
    let P : Checked → Type 0 = λ v. is_under (plan_of v.arena).nodes v.root v.root ≡ true in
    subst P c.self.view_is (root_under (plan_of c.self.inside.arena.now) c.self.inside.root c.self.invariant.0)
