use Rattle.pipe_ops.proofs.Covered.{joined-covers}
use Rattle.pipe_ops.proofs.offset_laws.joined_pieces_cover.Goals as goal

pub returns : goal.returns
returns c = joined-covers
