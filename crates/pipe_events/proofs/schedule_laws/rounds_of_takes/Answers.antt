use Rattle.pipe_events.proofs.Rounds.{rounds_of_takes}
use Rattle.pipe_events.proofs.schedule_laws.rounds_of_takes.Goals as goal

pub returns : goal.returns
returns c = rounds_of_takes
