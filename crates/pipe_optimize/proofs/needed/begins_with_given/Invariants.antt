use Rattle.std.proofs.Common.{◌≡◌, ◌≤◌, true, take, length}
use Rattle.std.specs.List.{AllByRecursion}
use Rattle.pipe_optimize.specs.Sides.{is_needed_anew}
use Rattle.pipe_optimize.proofs.needed.begins_with_given.Given as goal

abbrev pub invariant-loop-i : goal.invariant-loop-i
invariant-loop-i l = (l.i ≤ length l.names) × AllByRecursion (λ name. is_needed_anew l.others l.pairs name ≡ true) (take l.i l.names)
