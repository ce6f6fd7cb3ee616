use Rattle.pipe_events.proofs.Rounds.{rounds_of_flushes}
use Rattle.pipe_events.proofs.schedule_laws.rounds_of_flushes.Goals as goal

pub returns : goal.returns
returns c = rounds_of_flushes
