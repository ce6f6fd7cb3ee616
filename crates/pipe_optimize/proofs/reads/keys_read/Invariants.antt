use Rattle.std.proofs.Common.{map, take, ◌≡◌}
use Rattle.pipe_expr.specs.Formula.{formula_of}
use Rattle.pipe_rules.specs.Needs.{keys_read}
use Rattle.pipe_optimize.proofs.reads.keys_read.Given as goal

abbrev pub invariant-loop-key : goal.invariant-loop-key
invariant-loop-key l = l.read ≡ keys_read (map formula_of (take l.key-index l.keys))
