use Rattle.pipe_run.proofs.GoingOn.{go_on}
use Rattle.pipe_run.proofs.note_laws.notes_go_on.Goals as goal

pub returns : goal.returns
returns c = go_on
