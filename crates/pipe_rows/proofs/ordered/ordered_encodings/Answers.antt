use Rattle.pipe_rows.proofs.OrderedLaw.{rows_cmp}
use Rattle.pipe_rows.proofs.ordered.ordered_encodings.Goals as goal

pub returns : goal.returns
returns c = rows_cmp
