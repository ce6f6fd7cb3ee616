use Rattle.pipe_events.proofs.Journals.{journals_take}
use Rattle.pipe_events.proofs.schedule_laws.journals_take.Goals as goal

pub returns : goal.returns
returns c = journals_take
