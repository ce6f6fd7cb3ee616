use Rattle.std.proofs.Common.{filter, take, ◌≡◌}
use Rattle.pipe_optimize.specs.Sides.{is_needed_anew}
use Rattle.pipe_optimize.proofs.needed.kept_given.Given as goal

abbrev pub invariant-loop-name : goal.invariant-loop-name
invariant-loop-name l = l.kept ≡ filter (is_needed_anew l.needed l.pairs) (take l.name-index l.names)
