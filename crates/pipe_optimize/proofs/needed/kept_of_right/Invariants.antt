use Rattle.std.proofs.Common.{filter, take, ◌≡◌}
use Rattle.pipe_optimize.specs.Sides.{right_needed}
use Rattle.pipe_optimize.proofs.needed.kept_of_right.Given as goal

abbrev pub invariant-loop-name : goal.invariant-loop-name
invariant-loop-name l = l.kept ≡ filter (right_needed l.left l.keys l.read l.needed l.options) (take l.name-index l.right)
