use Rattle.std.proofs.Common.{◌≡◌, ◌≤◌, true, take, length}
use Rattle.std.specs.List.{AllByRecursion}
use Rattle.pipe_schema.specs.Schema.{has_name}
use Rattle.pipe_optimize.proofs.needed.begins_with.Given as goal

abbrev pub invariant-loop-i : goal.invariant-loop-i
invariant-loop-i l = (l.i ≤ length l.names) × AllByRecursion (λ name. has_name l.others name ≡ true) (take l.i l.names)
