use Rattle.pipe_events.proofs.Every.{every}
use Rattle.pipe_events.proofs.laws.every_schedule.Goals as goal

pub returns : goal.returns
returns c = every
