use Rattle.pipe_events.proofs.Tied.{complete_flags}
use Rattle.pipe_events.proofs.laws.complete_lists_have_their_flags.Goals as goal

pub returns : goal.returns
returns c = complete_flags
