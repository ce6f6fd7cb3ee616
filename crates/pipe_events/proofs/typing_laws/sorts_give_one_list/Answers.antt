use Rattle.pipe_events.proofs.Plans.{sorts_sure}
use Rattle.pipe_events.proofs.typing_laws.sorts_give_one_list.Goals as goal

pub returns : goal.returns
returns c = sorts_sure
