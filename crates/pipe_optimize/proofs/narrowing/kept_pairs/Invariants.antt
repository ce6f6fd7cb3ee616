use Rattle.std.proofs.Common.{filter, ◌≡◌, ◌++◌}
use Rattle.pipe_optimize.specs.Sides.{has_existing}
use Rattle.pipe_optimize.proofs.narrowing.kept_pairs.Given as goal

abbrev pub invariant-loop-pair : goal.invariant-loop-pair
invariant-loop-pair l =
    (l.kept ≡ filter (has_existing l.names) l.yielded)
    × (l.yielded ++ l.pair-iterator.rest.items ≡ l.initial.pair-iterator.rest.items)
