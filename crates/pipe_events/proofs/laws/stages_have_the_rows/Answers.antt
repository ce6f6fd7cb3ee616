use Rattle.pipe_events.proofs.PlanLemmas.{stages_have_rows}
use Rattle.pipe_events.proofs.laws.stages_have_the_rows.Goals as goal

pub returns : goal.returns
returns c = stages_have_rows
