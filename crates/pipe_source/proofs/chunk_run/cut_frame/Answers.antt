use Rattle.std.proofs.Common.{◌∙◌, ◌++◌, length, ap, sym}
use Rattle.pipe_frame.specs.Frame.{Table}
use Rattle.pipe_source.specs.Runs.{cut_rows}
use Rattle.pipe_source.proofs.chunk_run.cut_frame.Goals as goal

pub cut_pieces-requires : goal.cut_pieces-requires
cut_pieces-requires c = c.requires ∙ ap (λ (t : Table). length t.rows) (sym c.in_ok-frame.ensures)

pub returns : goal.returns
returns c = c.in_ok-cut_pieces.ensures ∙ ap (λ (t : Table). c.args.chunks.now.items ++ cut_rows t.schema t.rows c.args.pieces.now) c.in_ok-frame.ensures
