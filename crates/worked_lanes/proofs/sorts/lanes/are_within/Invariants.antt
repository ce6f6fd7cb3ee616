use Rattle.std.proofs.Common.{take}
use Rattle.pipe_sort.specs.SortKeys.{AreWithin}
use Rattle.worked_lanes.proofs.sorts.lanes.are_within.Given as goal

abbrev pub invariant-loop-key : goal.invariant-loop-key
invariant-loop-key l = AreWithin l.width (take l.key-index l.keys)
