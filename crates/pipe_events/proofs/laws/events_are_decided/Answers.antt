use Rattle.pipe_events.proofs.Deciding.{events_decided}
use Rattle.pipe_events.proofs.laws.events_are_decided.Goals as goal

pub returns : goal.returns
returns c = events_decided
