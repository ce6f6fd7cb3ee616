use Rattle.std.proofs.Common.{map, ◌≡◌, ◌++◌}
use Rattle.pipe_schema.specs.Schema.{has_name}
use Rattle.pipe_expr.specs.Formula.{named_formula_of}
use Rattle.pipe_rules.specs.Needs.{needed_exprs}
use Rattle.pipe_optimize.proofs.narrowing.kept_exprs.Given as goal

abbrev pub invariant-loop-expr : goal.invariant-loop-expr
invariant-loop-expr l =
    (map named_formula_of l.kept ≡ needed_exprs (has_name l.needed) (map named_formula_of l.yielded))
    × (l.yielded ++ l.expr-iterator.rest.items ≡ l.initial.expr-iterator.rest.items)
