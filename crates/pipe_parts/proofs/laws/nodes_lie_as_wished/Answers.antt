use Rattle.pipe_parts.proofs.Plans.{nodes-lie}
use Rattle.pipe_parts.proofs.laws.nodes_lie_as_wished.Goals as goal

pub returns : goal.returns
returns c = nodes-lie
