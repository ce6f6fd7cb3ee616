use Rattle.std.proofs.Common.{◌≡◌, take}
use Rattle.pipe_expr.specs.Formula.{formulas_of}
use Rattle.pipe_expr.proofs.try_clone.copy_exprs.Given as goal

abbrev pub invariant-loop-expr : goal.invariant-loop-expr
invariant-loop-expr l = formulas_of l.copies ≡ formulas_of (take l.expr-index l.exprs)
