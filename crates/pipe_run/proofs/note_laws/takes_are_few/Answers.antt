use Rattle.pipe_run.proofs.Few.{takes_few}
use Rattle.pipe_run.proofs.note_laws.takes_are_few.Goals as goal

pub returns : goal.returns
returns c = takes_few
