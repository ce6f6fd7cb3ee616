use Rattle.pipe_events.proofs.PlanLemmas.{are_stages}
use Rattle.pipe_events.proofs.schedule_laws.plans_have_stages.Goals as goal

pub returns : goal.returns
returns c = are_stages
