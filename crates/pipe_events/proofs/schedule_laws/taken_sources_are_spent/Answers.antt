use Rattle.pipe_events.proofs.Sources.{taken_sources}
use Rattle.pipe_events.proofs.schedule_laws.taken_sources_are_spent.Goals as goal

pub returns : goal.returns
returns c = taken_sources
