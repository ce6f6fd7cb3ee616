use Rattle.pipe_ops.proofs.Covered.{split-covers}
use Rattle.pipe_ops.proofs.offset_laws.split_pieces_cover.Goals as goal

pub returns : goal.returns
returns c = split-covers
