use Rattle.pipe_events.proofs.Deciding.{lists_decided}
use Rattle.pipe_events.proofs.laws.lists_are_decided.Goals as goal

pub returns : goal.returns
returns c = lists_decided
