use Rattle.std.proofs.Common.{length}
use Rattle.pipe_rules.proofs.splitting.+joined.Given as goal

abbrev pub decreases-joined : goal.decreases-joined
decreases-joined l = length l.conjuncts.now
