use Rattle.std.proofs.Common.{length}
use Rattle.pipe_plain.proofs.mismatch.+do_keys_differ.Given as goal

abbrev pub decreases-do_keys_differ : goal.decreases-do_keys_differ
decreases-do_keys_differ l = length l.left_on.now
