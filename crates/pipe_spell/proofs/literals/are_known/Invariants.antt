use Rattle.std.proofs.Common.{◌≡◌, drop}
use Rattle.std.specs.List.{list_all}
use Rattle.pipe_expr.specs.Formula.{formulas_of}
use Rattle.pipe_spell.specs.Literals.{formula_known}
use Rattle.pipe_spell.proofs.literals.are_known.Given as goal

abbrev pub invariant-loop-expr : goal.invariant-loop-expr
invariant-loop-expr l = list_all (formula_known l.version) (formulas_of (drop l.expr-index l.exprs)) ≡ list_all (formula_known l.version) (formulas_of l.exprs)
