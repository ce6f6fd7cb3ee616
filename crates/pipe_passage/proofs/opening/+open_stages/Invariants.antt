use Rattle.std.proofs.Common.{length}
use Rattle.pipe_passage.proofs.opening.+open_stages.Given as goal

abbrev pub decreases-open_stages : goal.decreases-open_stages
decreases-open_stages g l = length l.stages.now
