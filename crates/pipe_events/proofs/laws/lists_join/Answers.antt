use Rattle.pipe_events.proofs.Tied.{lists_join}
use Rattle.pipe_events.proofs.laws.lists_join.Goals as goal

pub returns : goal.returns
returns c = lists_join
