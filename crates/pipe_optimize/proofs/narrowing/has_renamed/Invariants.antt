use Rattle.std.proofs.Common.{◌≡◌, true, take}
use Rattle.std.specs.List.{AllByRecursion}
use Rattle.pipe_optimize.specs.Sides.{has_existing}
use Rattle.pipe_optimize.proofs.narrowing.has_renamed.Given as goal

abbrev pub invariant-loop-pair : goal.invariant-loop-pair
invariant-loop-pair l = AllByRecursion (λ pair. has_existing l.names pair ≡ true) (take l.pair-index l.pairs)
