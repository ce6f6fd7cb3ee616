use Rattle.pipe_run.proofs.GoingOn.{begin}
use Rattle.pipe_run.proofs.note_laws.notes_begin.Goals as goal

pub returns : goal.returns
returns c = begin
