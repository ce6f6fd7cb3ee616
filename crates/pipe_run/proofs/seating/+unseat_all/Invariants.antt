use Rattle.std.proofs.Common.{length}
use Rattle.pipe_run.proofs.seating.+unseat_all.Given as goal

abbrev pub decreases-unseat_all : goal.decreases-unseat_all
decreases-unseat_all g l = length l.lanes.now
