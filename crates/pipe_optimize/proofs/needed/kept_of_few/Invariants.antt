use Rattle.std.proofs.Common.{filter, take, ◌≡◌}
use Rattle.pipe_optimize.specs.Sides.{is_either}
use Rattle.pipe_optimize.proofs.needed.kept_of_few.Given as goal

abbrev pub invariant-loop-name : goal.invariant-loop-name
invariant-loop-name l = l.kept ≡ filter (is_either l.needed l.read) (take l.name-index l.names)
