use Rattle.pipe_events.proofs.Unfaulted.{without_fault}
use Rattle.pipe_events.proofs.laws.plans_without_fault.Goals as goal

pub returns : goal.returns
returns c = without_fault
