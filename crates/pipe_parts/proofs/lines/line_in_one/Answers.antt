use Rattle.pipe_plan.specs.Plan.{plan_of}
use Rattle.pipe_value.specs.View.{view}
use Rattle.pipe_parts.proofs.Floatless.{one_written}
use Rattle.pipe_parts.proofs.lines.line_in_one.Goals as goal

pub returns : goal.returns
returns c = one_written c.line_of_value.result (view c.in_ok-value.value) (plan_of c.args.plan.now.arena) c.args.plan.now.root c.args.all.now c.args.found c.in_ok-value.ensures c.line_of_value.ensures.text
