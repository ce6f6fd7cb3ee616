use Rattle.pipe_events.proofs.Whole.{runs_rows}
use Rattle.pipe_events.proofs.run_laws.runs_have_the_rows.Goals as goal

pub returns : goal.returns
returns c = runs_rows
