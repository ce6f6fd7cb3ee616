use Rattle.std.proofs.Common.{length}
use Rattle.pipe_source.proofs.batches.+frames_of.Given as goal

abbrev pub decreases-frames_of : goal.decreases-frames_of
decreases-frames_of l = length l.sources.now
