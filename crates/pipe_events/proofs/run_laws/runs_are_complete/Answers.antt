use Rattle.pipe_events.proofs.Whole.{runs_complete}
use Rattle.pipe_events.proofs.run_laws.runs_are_complete.Goals as goal

pub returns : goal.returns
returns c = runs_complete
