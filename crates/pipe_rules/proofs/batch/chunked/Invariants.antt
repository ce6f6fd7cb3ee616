use Rattle.std.proofs.Common.{◌≡◌, ◌++◌, map}
use Rattle.pipe_expr.specs.Formula.{formula_of}
use Rattle.pipe_rules.proofs.Reaches.{GoesOn}
use Rattle.pipe_rules.proofs.batch.chunked.Given as goal

abbrev pub invariant-loop-conjunct : goal.invariant-loop-conjunct
invariant-loop-conjunct l =
    GoesOn l.schema l.initial.made l.initial.open (map formula_of l.yielded) l.made l.open
    × (l.yielded ++ l.conjunct-iterator.rest.items ≡ l.initial.conjunct-iterator.rest.items)
