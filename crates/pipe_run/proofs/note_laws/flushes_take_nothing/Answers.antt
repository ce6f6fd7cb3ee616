use Rattle.pipe_run.proofs.Few.{flushes_few}
use Rattle.pipe_run.proofs.note_laws.flushes_take_nothing.Goals as goal

pub returns : goal.returns
returns c = flushes_few
