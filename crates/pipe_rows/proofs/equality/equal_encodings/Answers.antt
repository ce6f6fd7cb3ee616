use Rattle.pipe_rows.proofs.EqualityLaw.{equal_rows}
use Rattle.pipe_rows.proofs.equality.equal_encodings.Goals as goal

pub returns : goal.returns
returns c = equal_rows
