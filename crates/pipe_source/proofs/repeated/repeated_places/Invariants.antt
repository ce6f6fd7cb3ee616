use Rattle.std.proofs.Common.{◌≡◌}
use Rattle.pipe_source.specs.Unpivots.{repeated}
use Rattle.pipe_source.proofs.repeated.repeated_places.Given as goal

abbrev pub invariant-loop-i : goal.invariant-loop-i
invariant-loop-i l = l.places.items ≡ repeated l.times l.from l.i
