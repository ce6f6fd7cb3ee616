use Rattle.std.proofs.Common.{length}
use Rattle.pipe_plain.proofs.mismatch.+is_same_schema.Given as goal

abbrev pub decreases-is_same_schema : goal.decreases-is_same_schema
decreases-is_same_schema l = length l.a.now
