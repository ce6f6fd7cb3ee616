use Rattle.pipe_events.proofs.Journals.{empty_journals}
use Rattle.pipe_events.proofs.schedule_laws.empty_journals_stand.Goals as goal

pub returns : goal.returns
returns c = empty_journals
