use Rattle.std.proofs.Common.{◌≡◌}
use Rattle.pipe_check.proofs.Pairs.{keys_from}
use Rattle.pipe_check.proofs.type_mismatch.do_keys_differ.Given as goal

abbrev pub invariant-loop-i : goal.invariant-loop-i
invariant-loop-i l = keys_from l.left l.right l.left_on l.right_on l.i ≡ keys_from l.left l.right l.left_on l.right_on 0
