use Rattle.std.proofs.Common.{◌≡◌, drop}
use Rattle.pipe_rules.specs.Reach.{furthest_from, furthest_of}
use Rattle.pipe_rules.proofs.batch.furthest.Given as goal

abbrev pub invariant-loop-one : goal.invariant-loop-one
invariant-loop-one l = furthest_from l.far (drop l.one-index l.conjuncts) ≡ furthest_of l.conjuncts
