use Rattle.std.proofs.Common.{◌≡◌, take}
use Rattle.pipe_expr.specs.Formula.{named_formulas_of}
use Rattle.pipe_expr.proofs.try_clone.copy_named_exprs.Given as goal

abbrev pub invariant-loop-expr : goal.invariant-loop-expr
invariant-loop-expr l = named_formulas_of l.copies ≡ named_formulas_of (take l.expr-index l.exprs)
