use Rattle.std.proofs.Common.{◌≡◌, drop}
use Rattle.pipe_expr.specs.Projections.{renamed}
use Rattle.pipe_source.proofs.renamed.new_name.Given as goal

abbrev pub invariant-loop-pair : goal.invariant-loop-pair
invariant-loop-pair l = renamed (drop l.pair-index l.pairs) l.name ≡ renamed l.pairs l.name
