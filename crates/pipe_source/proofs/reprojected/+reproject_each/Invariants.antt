use Rattle.std.proofs.Common.{length}
use Rattle.pipe_source.proofs.reprojected.+reproject_each.Given as goal

abbrev pub decreases-reproject_each : goal.decreases-reproject_each
decreases-reproject_each l = length l.morsels.now
