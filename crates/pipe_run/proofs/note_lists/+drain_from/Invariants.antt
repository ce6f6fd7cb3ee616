use Rattle.std.proofs.Common.{length}
use Rattle.pipe_run.proofs.note_lists.+drain_from.Given as goal

abbrev pub decreases-drain_from : goal.decreases-drain_from
decreases-drain_from g l = length l.lanes.now
