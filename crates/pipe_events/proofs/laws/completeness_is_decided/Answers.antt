use Rattle.pipe_events.proofs.Deciding.{completeness_decided}
use Rattle.pipe_events.proofs.laws.completeness_is_decided.Goals as goal

pub returns : goal.returns
returns c = completeness_decided
