use Rattle.std.proofs.Common.{subst}
use Rattle.std.specs.Prelude.{All}
use Rattle.pipe_source.specs.Runs.{Run, IsFrom}
use Rattle.pipe_source.proofs.RunLemmas.{from_first}
use Rattle.pipe_source.proofs.chunk_run.ChunkRun.is_behind.Goals as goal

pub returns-then-index-self-clause-from : goal.returns-then-index-self-clause-from
returns-then-index-self-clause-from c = λ yes_is.
    subst (λ (r : Run). All (IsFrom c.args.index) r.chunks) c.self.view_is
    (from_first c.self.inside.all.frame.schema c.self.inside.all.frame.rows c.self.inside.pieces.items c.args.index (rw c.as_slice.ensures.value at (c.begins_from.ensures yes_is)) c.self.invariant.rises)
