use Rattle.std.proofs.Common.{◌≡◌, drop}
use Rattle.std.specs.List.{list_any}
use Rattle.pipe_expr.specs.Formula.{formulas_of}
use Rattle.pipe_job.specs.Version.{has_int128}
use Rattle.pipe_job.proofs.version.any_has_int128.Given as goal

abbrev pub invariant-loop-expr : goal.invariant-loop-expr
invariant-loop-expr l = list_any has_int128 (formulas_of (drop l.expr-index l.exprs)) ≡ list_any has_int128 (formulas_of l.exprs)
