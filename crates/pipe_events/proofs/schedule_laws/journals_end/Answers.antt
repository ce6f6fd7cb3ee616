use Rattle.pipe_events.proofs.Journals.{journals_end}
use Rattle.pipe_events.proofs.schedule_laws.journals_end.Goals as goal

pub returns : goal.returns
returns c = journals_end
