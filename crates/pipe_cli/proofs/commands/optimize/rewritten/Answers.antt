use Rattle.std.proofs.Common.{map, subst}
use Rattle.pipe_check.specs.Checked.{Checked}
use Rattle.pipe_job.specs.JobSpelling.{task_of}
use Rattle.pipe_rules.specs.declared.pushdown.Rewritten.{Rewritten}
use Rattle.pipe_plan.specs.Node.{node_of}
use Rattle.pipe_plan.specs.Plan.{plan_of}
use Rattle.pipe_cli.specs.Optimized.{IsBetterPlan}
use Rattle.pipe_cli.proofs.OptimizeLemmas.{answer_has, made_better}
use Rattle.pipe_cli.proofs.commands.optimize.rewritten.Goals as goal

pub returns-in-Ok-clause-made : goal.returns-in-Ok-clause-made
returns-in-Ok-clause-made c =
    let made = c.in-Ok.made in
    let plan = c.in_ok-plan.plan in
    let better = answer_has (λ (it : Rewritten). IsBetterPlan (plan_of plan.arena) plan.root (map node_of it.nodes) it.root) c.better_plan.result made c.in-Ok.is c.better_plan.ensures.better in
    made_better (task_of c.args.job.now) (map node_of made.nodes) made.root (subst (λ (it : Checked). IsBetterPlan (plan_of it.arena) it.root (map node_of made.nodes) made.root) c.in_ok-plan.ensures.plan better)
