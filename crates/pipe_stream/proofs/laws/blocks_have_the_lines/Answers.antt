use Rattle.std.proofs.Common.{[]}
use Rattle.pipe_job.specs.Line.{row_line}
use Rattle.pipe_stream.proofs.OrderLemmas.{texts_are_lines}
use Rattle.pipe_stream.proofs.laws.blocks_have_the_lines.Goals as goal

pub returns : goal.returns
returns g = texts_are_lines [] row_line
