use Rattle.std.proofs.Common.{length}
use Rattle.pipe_stream.specs.Blocks.{block_count, block_text}
use Rattle.pipe_stream.proofs.stream.stream_frame.Given as goal

abbrev pub ghosts-stream_blocks : goal.ghosts-stream_blocks
ghosts-stream_blocks g a = record {
  text = block_text (g.R.Render.line_of a.source.now.render.now a.source.now.frame.now) (length a.source.now.frame.now.rows) a.source.now.block_rows;
  count = block_count (length a.source.now.frame.now.rows) a.source.now.block_rows;
}
