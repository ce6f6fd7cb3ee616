use Rattle.std.proofs.Common.{◌+◌, ◌*◌}
use Rattle.pipe_source.specs.Supplies.{depth_of}
use Rattle.pipe_source.proofs.batches.+frames.Given as goal

abbrev pub decreases-frames_in : goal.decreases-frames_in
decreases-frames_in l = 2 * depth_of l.source.now + 1

abbrev pub decreases-reprojected_frames : goal.decreases-reprojected_frames
decreases-reprojected_frames l = 2 * l.source.now.depth
