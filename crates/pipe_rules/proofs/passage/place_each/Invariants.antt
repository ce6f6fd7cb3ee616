use Rattle.std.proofs.Common.{◌≡◌, ◌++◌, map}
use Rattle.pipe_expr.specs.Formula.{formula_of}
use Rattle.pipe_rules.specs.Placements.{placing_of}
use Rattle.pipe_rules.proofs.passage.place_each.Given as goal

abbrev pub invariant-loop-conjunct : goal.invariant-loop-conjunct
invariant-loop-conjunct g l =
    (map placing_of l.placements ≡ map (g.P.Passage.placing l.passage) (map formula_of l.yielded))
    × (l.yielded ++ l.conjunct-iterator.rest.items ≡ l.initial.conjunct-iterator.rest.items)
