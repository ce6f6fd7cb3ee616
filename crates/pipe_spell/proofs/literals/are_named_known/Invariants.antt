use Rattle.std.proofs.Common.{◌≡◌, drop}
use Rattle.std.specs.List.{list_all}
use Rattle.pipe_expr.specs.Formula.{named_formulas_of}
use Rattle.pipe_spell.specs.Literals.{named_known}
use Rattle.pipe_spell.proofs.literals.are_named_known.Given as goal

abbrev pub invariant-loop-named : goal.invariant-loop-named
invariant-loop-named l = list_all (named_known l.version) (named_formulas_of (drop l.named-index l.exprs)) ≡ list_all (named_known l.version) (named_formulas_of l.exprs)
