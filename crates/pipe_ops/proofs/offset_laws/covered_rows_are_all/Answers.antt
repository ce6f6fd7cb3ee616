use Rattle.pipe_ops.proofs.Covered.{covered-rows}
use Rattle.pipe_ops.proofs.offset_laws.covered_rows_are_all.Goals as goal

pub returns : goal.returns
returns c = covered-rows
