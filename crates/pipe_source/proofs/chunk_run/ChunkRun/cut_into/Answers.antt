use Rattle.std.proofs.Common.{◌≡◌, ◌∙◌, ◌++◌, List, length, ap, sym, subst}
use Rattle.std.specs.Prelude.{All}
use Rattle.std.specs.List.{sum_by}
use Rattle.pipe_frame.specs.Chunks.{HasSchema}
use Rattle.pipe_frame.specs.Frame.{Table}
use Rattle.pipe_source.specs.Runs.{Run, cut_rows, height_in}
use Rattle.pipe_source.specs.declared.chunk_run.Piece.{Piece}
use Rattle.pipe_source.proofs.RunLemmas.{cut_schema}
use Rattle.pipe_source.proofs.chunk_run.ChunkRun.cut_into.Goals as goal

pub cut_frame-requires : goal.cut_frame-requires
cut_frame-requires c =
    let frame : c.in_ok-frame.frame ≡ c.self.inside.all.frame = c.in_ok-frame.ensures in
    ap (sum_by height_in) c.as_slice.ensures.value ∙ c.self.invariant.whole ∙ ap (λ (t : Table). length t.rows) (sym frame)

pub returns-clause-chunks : goal.returns-clause-chunks
returns-clause-chunks c =
    let frame : c.in_ok-frame.frame ≡ c.self.inside.all.frame = c.in_ok-frame.ensures in
    c.in_ok-cut_frame.ensures
    ∙ ap (λ (t : Table). c.args.chunks.now.items ++ cut_rows t.schema t.rows c.as_slice.result.now) frame
    ∙ ap (λ (l : List Piece). c.args.chunks.now.items ++ cut_rows c.self.inside.all.frame.schema c.self.inside.all.frame.rows l) c.as_slice.ensures.value
    ∙ ap (λ (r : Run). c.args.chunks.now.items ++ r.chunks) c.self.view_is

pub returns-clause-schema : goal.returns-clause-schema
returns-clause-schema c = subst (λ (r : Run). All (HasSchema r.schema) r.chunks) c.self.view_is (cut_schema c.self.inside.all.frame.schema c.self.inside.all.frame.rows c.self.inside.pieces.items)
