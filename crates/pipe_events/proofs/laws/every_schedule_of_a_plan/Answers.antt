use Rattle.pipe_events.proofs.PlanLemmas.{every_of_a_plan}
use Rattle.pipe_events.proofs.laws.every_schedule_of_a_plan.Goals as goal

pub returns : goal.returns
returns c = every_of_a_plan
