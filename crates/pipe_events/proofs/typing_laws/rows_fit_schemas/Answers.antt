use Rattle.pipe_events.proofs.Plans.{rows_fit}
use Rattle.pipe_events.proofs.typing_laws.rows_fit_schemas.Goals as goal

pub returns : goal.returns
returns c = rows_fit
