use Rattle.std.proofs.Common.{map, take, ◌≡◌}
use Rattle.pipe_expr.specs.Projections.{renamed}
use Rattle.pipe_optimize.proofs.outputs.renamed_names.Given as goal

abbrev pub invariant-loop-name : goal.invariant-loop-name
invariant-loop-name l = l.names ≡ map (renamed l.pairs) (take l.name-index l.input)
