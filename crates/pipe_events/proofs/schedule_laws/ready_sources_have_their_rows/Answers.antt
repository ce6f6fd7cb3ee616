use Rattle.pipe_events.proofs.Sources.{ready_sources}
use Rattle.pipe_events.proofs.schedule_laws.ready_sources_have_their_rows.Goals as goal

pub returns : goal.returns
returns c = ready_sources
