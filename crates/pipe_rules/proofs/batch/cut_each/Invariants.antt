use Rattle.std.proofs.Common.{◌≡◌, ◌++◌, map, filter}
use Rattle.pipe_expr.specs.Formula.{formula_of}
use Rattle.pipe_rules.specs.Reach.{is_near, far_formulas}
use Rattle.pipe_rules.proofs.batch.cut_each.Given as goal

abbrev pub invariant-loop-one : goal.invariant-loop-one
invariant-loop-one l =
    (l.near ≡ filter (is_near l.bound) l.yielded)
    × (map formula_of l.far ≡ map formula_of l.initial.far ++ far_formulas l.bound l.yielded)
    × (l.yielded ++ l.one-iterator.rest.items ≡ l.initial.one-iterator.rest.items)
