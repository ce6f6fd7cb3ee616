use Rattle.std.proofs.Common.{◌+◌, ◌*◌}
use Rattle.pipe_source.specs.Supplies.{depth_of, deepest}
use Rattle.pipe_source.proofs.batches.+batches.Given as goal

abbrev pub decreases-source_batches : goal.decreases-source_batches
decreases-source_batches l = 3 * depth_of l.source.now + 2

abbrev pub decreases-union_batches : goal.decreases-union_batches
decreases-union_batches l = 3 * l.union.now.depth + 1

abbrev pub decreases-reproject_batches : goal.decreases-reproject_batches
decreases-reproject_batches l = 3 * l.reproject.now.depth + 1

abbrev pub decreases-list_batches : goal.decreases-list_batches
decreases-list_batches l = 3 * deepest l.sources.now + 3
