use Rattle.std.proofs.Common.{◌≡◌, ◌++◌, map}
use Rattle.pipe_expr.specs.Formula.{formula_of}
use Rattle.pipe_rules.specs.Reach.{formulas_in_chunks}
use Rattle.pipe_rules.proofs.batch.listed.Given as goal

abbrev pub invariant-loop-chunk : goal.invariant-loop-chunk
invariant-loop-chunk l =
    (map formula_of l.list ≡ formulas_in_chunks l.yielded)
    × (l.yielded ++ l.chunk-iterator.rest.items ≡ l.initial.chunk-iterator.rest.items)
