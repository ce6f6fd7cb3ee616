use Rattle.pipe_events.proofs.Journals.{journals_flush}
use Rattle.pipe_events.proofs.schedule_laws.journals_flush.Goals as goal

pub returns : goal.returns
returns c = journals_flush
