use Rattle.pipe_run.proofs.Parts.{flushed}
use Rattle.pipe_run.proofs.note_laws.joins_are_flushed.Goals as goal

pub returns : goal.returns
returns c = flushed
