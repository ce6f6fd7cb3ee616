use Rattle.std.proofs.Common.{◌++◌, drop}
use Rattle.pipe_source.specs.Runs.{cut_rows}
use Rattle.pipe_source.proofs.RunLemmas.{IsCutSoFar}
use Rattle.pipe_source.proofs.chunk_run.cut_pieces.Given as goal

abbrev pub invariant-loop-piece : goal.invariant-loop-piece
invariant-loop-piece l = IsCutSoFar l.frame.schema l.frame.rows l.at (drop l.piece-index l.pieces) l.chunks.items (l.fn.chunks.items ++ cut_rows l.frame.schema l.frame.rows l.pieces)
