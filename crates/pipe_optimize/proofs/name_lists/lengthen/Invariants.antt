use Rattle.std.proofs.Common.{◌≡◌, ◌++◌}
use Rattle.pipe_optimize.proofs.name_lists.lengthen.Given as goal

abbrev pub invariant-loop-name : goal.invariant-loop-name
invariant-loop-name l =
    (l.names ≡ l.initial.names ++ l.yielded)
    × (l.yielded ++ l.name-iterator.rest.items ≡ l.initial.name-iterator.rest.items)
