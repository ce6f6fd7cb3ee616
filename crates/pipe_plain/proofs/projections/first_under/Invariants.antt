use Rattle.std.proofs.Common.{◌≡◌, map, drop}
use Rattle.pipe_expr.specs.Formula.{named_formula_of}
use Rattle.pipe_expr.specs.Projections.{expr_named}
use Rattle.pipe_plain.proofs.projections.first_under.Given as goal

abbrev pub invariant-loop-expr : goal.invariant-loop-expr
invariant-loop-expr l = expr_named (map named_formula_of (drop l.expr-index l.exprs)) l.name ≡ expr_named (map named_formula_of l.exprs) l.name
