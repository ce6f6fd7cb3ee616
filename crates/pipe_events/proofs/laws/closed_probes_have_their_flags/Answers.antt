use Rattle.pipe_events.proofs.Tied.{closed_probes}
use Rattle.pipe_events.proofs.laws.closed_probes_have_their_flags.Goals as goal

pub returns : goal.returns
returns c = closed_probes
