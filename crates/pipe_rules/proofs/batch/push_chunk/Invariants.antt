use Rattle.std.proofs.Common.{◌≡◌, ◌++◌, map}
use Rattle.pipe_expr.specs.Formula.{formula_of}
use Rattle.pipe_rules.specs.Reach.{formula_in}
use Rattle.pipe_rules.proofs.batch.push_chunk.Given as goal

abbrev pub invariant-loop-one : goal.invariant-loop-one
invariant-loop-one l =
    (map formula_of l.list ≡ map formula_of l.initial.list ++ map formula_in l.yielded)
    × (l.yielded ++ l.one-iterator.rest.items ≡ l.initial.one-iterator.rest.items)
