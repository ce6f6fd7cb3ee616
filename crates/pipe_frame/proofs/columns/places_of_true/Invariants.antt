use Rattle.std.proofs.Common.{◌≡◌, ◌++◌, drop}
use Rattle.pipe_column.specs.Columns.{true_places}
use Rattle.pipe_frame.proofs.columns.places_of_true.Given as goal

abbrev pub invariant-loop-i : goal.invariant-loop-i
invariant-loop-i l = l.places.items ++ true_places l.i (drop l.i l.mask) ≡ true_places 0 l.mask
