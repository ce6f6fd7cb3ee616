use Rattle.pipe_events.proofs.Tied.{semi_joins}
use Rattle.pipe_events.proofs.laws.semi_joins_keep_each_row_once.Goals as goal

pub returns : goal.returns
returns c = semi_joins
