use Rattle.pipe_events.proofs.Tied.{closed_sides}
use Rattle.pipe_events.proofs.laws.closed_sides_have_their_rows.Goals as goal

pub returns : goal.returns
returns c = closed_sides
