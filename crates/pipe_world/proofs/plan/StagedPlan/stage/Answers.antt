use Rattle.std.proofs.Common.{◌≡◌, ◌≤◌, [], length, sym, subst, arith}
use Rattle.std.proofs.lemmas.List.{length-map}
use Rattle.pipe_plan.specs.Node.{node_of}
use Rattle.pipe_plan.specs.Plan.{plan_of}
use Rattle.pipe_events.specs.Stages as stages
use Rattle.pipe_world.specs.StageValues.{stage_value}
use Rattle.pipe_world.specs.Staged.{Staging, stage_in}
use Rattle.pipe_world.proofs.Tables.{stage-past}
use Rattle.pipe_world.proofs.plan.StagedPlan.stage.Goals as goal

pub returns-then-k-len : goal.returns-then-k-len
unfolding stage_in
returns-then-k-len c =
    subst (λ (p : Staging). stage_value c.stage_of_number.result ≡ stage_in p c.args.k) c.self.view_is c.stage_of_number.ensures

pub returns-else-k-len : goal.returns-else-k-len
unfolding stage_in
returns-else-k-len c =
    let arena = c.self.inside.arena.now in
    let long = length-map arena.nodes node_of in
    let past : length (plan_of arena).nodes ≤ c.args.k = omega (arith, long, c.if-k-len.false, c.len.ensures) in
    subst (λ (p : Staging). stages.Union [] ≡ stage_in p c.args.k) c.self.view_is (sym (stage-past (plan_of arena) c.self.inside.tables.now.root c.args.k past))
