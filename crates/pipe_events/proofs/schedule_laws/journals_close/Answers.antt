use Rattle.pipe_events.proofs.Journals.{journals_close}
use Rattle.pipe_events.proofs.schedule_laws.journals_close.Goals as goal

pub returns : goal.returns
returns c = journals_close
