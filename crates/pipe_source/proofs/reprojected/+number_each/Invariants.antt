use Rattle.std.proofs.Common.{length}
use Rattle.pipe_source.proofs.reprojected.+number_each.Given as goal

abbrev pub decreases-number_each : goal.decreases-number_each
decreases-number_each l = length l.morsels.now
