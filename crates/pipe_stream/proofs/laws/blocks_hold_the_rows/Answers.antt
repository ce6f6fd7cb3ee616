use Rattle.pipe_stream.proofs.OrderLemmas.{same_rows}
use Rattle.pipe_stream.proofs.laws.blocks_hold_the_rows.Goals as goal

pub returns : goal.returns
returns g = same_rows
