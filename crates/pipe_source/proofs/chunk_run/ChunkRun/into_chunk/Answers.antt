use Rattle.std.proofs.Common.{◌∙◌, ap, sym}
use Rattle.std.specs.List.{flat_map}
use Rattle.pipe_frame.specs.Chunks.{chunk_rows}
use Rattle.pipe_source.specs.Runs.{Run}
use Rattle.pipe_source.proofs.RunLemmas.{cut_whole}
use Rattle.pipe_source.proofs.chunk_run.ChunkRun.into_chunk.Goals as goal

pub returns-clause-rows : goal.returns-clause-rows
returns-clause-rows c =
    sym (cut_whole c.self.inside.all.frame.schema c.self.inside.all.frame.rows c.self.inside.pieces.items c.self.invariant.whole)
    ∙ ap (λ (r : Run). flat_map chunk_rows r.chunks) c.self.view_is
