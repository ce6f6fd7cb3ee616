use Rattle.std.proofs.Common.{◌≡◌, drop}
use Rattle.std.specs.List.{list_any}
use Rattle.pipe_expr.specs.Formula.{named_formulas_of}
use Rattle.pipe_job.specs.Version.{named_has_int128}
use Rattle.pipe_job.proofs.version.any_named_has_int128.Given as goal

abbrev pub invariant-loop-named : goal.invariant-loop-named
invariant-loop-named l = list_any named_has_int128 (named_formulas_of (drop l.named-index l.exprs)) ≡ list_any named_has_int128 (named_formulas_of l.exprs)
