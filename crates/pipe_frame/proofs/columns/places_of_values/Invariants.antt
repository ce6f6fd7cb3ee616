use Rattle.std.proofs.Common.{◌≡◌, ◌≤◌, ◌++◌, length, take, drop, map, Some}
use Rattle.pipe_column.specs.Columns.{true_places}
use Rattle.pipe_frame.proofs.columns.places_of_values.Given as goal

abbrev pub invariant-loop-i : goal.invariant-loop-i
invariant-loop-i l = record {
  long : length l.places.items ≡ length l.values;
  few : l.count ≤ l.i;
  places : take l.count l.places.items ++ true_places l.i (map Some (drop l.i l.values)) ≡ true_places 0 (map Some l.values);
}
