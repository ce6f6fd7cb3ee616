use Rattle.std.proofs.Common.{◌≡◌, take}
use Rattle.std.specs.List.{AllByRecursion}
use Rattle.pipe_driver.specs.Runs.{StartsElsewhere}
use Rattle.pipe_driver.proofs.parking.unpark.Given as goal

abbrev pub invariant-loop-i : goal.invariant-loop-i
invariant-loop-i g l = record {
  same : l.parked.items ≡ l.initial.parked.items;
  none : AllByRecursion (StartsElsewhere l.node) (take l.i l.parked.items);
}
