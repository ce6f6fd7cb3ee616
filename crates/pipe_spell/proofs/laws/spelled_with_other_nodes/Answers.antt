use Rattle.pipe_spell.proofs.Known.{fits_with_other_nodes}
use Rattle.pipe_spell.proofs.laws.spelled_with_other_nodes.Goals as goal

pub returns : goal.returns
returns c = fits_with_other_nodes
