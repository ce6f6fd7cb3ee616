use Rattle.std.proofs.Common.{subst}
use Rattle.std.specs.Prelude.{All}
use Rattle.pipe_source.specs.Runs.{Run, IsUpTo}
use Rattle.pipe_source.proofs.chunk_run.ChunkRun.last.Goals as goal

pub returns-clause-below : goal.returns-clause-below
returns-clause-below c = subst (λ (r : Run). All (IsUpTo r.last) r.chunks) c.self.view_is c.self.invariant.below
