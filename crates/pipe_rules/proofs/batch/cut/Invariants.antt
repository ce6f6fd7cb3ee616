use Rattle.std.proofs.Common.{◌≡◌, ◌++◌, map}
use Rattle.std.specs.List.{AllByRecursion}
use Rattle.pipe_expr.specs.Formula.{formula_of}
use Rattle.pipe_rules.specs.Reach.{near_in, far_in, IsChunk}
use Rattle.pipe_rules.proofs.batch.cut.Given as goal

abbrev pub invariant-loop-chunk : goal.invariant-loop-chunk
invariant-loop-chunk l =
    (l.near ≡ map (near_in l.bound) l.yielded)
    × (map formula_of l.far ≡ map formula_of l.initial.far ++ far_in l.bound l.yielded)
    × AllByRecursion IsChunk l.chunk-iterator.rest.items
    × (l.yielded ++ l.chunk-iterator.rest.items ≡ l.initial.chunk-iterator.rest.items)
