use Rattle.std.proofs.Common.{◌≡◌, ◌++◌, drop, length}
use Rattle.pipe_plan.specs.PlanRows.{keys_from, sort_keys}
use Rattle.pipe_sort.specs.SortKeys.{AreWithin, by_keys}
use Rattle.pipe_replay.proofs.sorting.keys_of.Given as goal

abbrev pub invariant-loop-i : goal.invariant-loop-i
invariant-loop-i l = record {
  keys : by_keys l.keys ++ keys_from l.i l.schema (drop l.i l.by) l.options ≡ sort_keys l.schema l.by l.options;
  within : AreWithin (length l.schema) l.keys;
}
