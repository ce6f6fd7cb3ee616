use Rattle.pipe_driver.proofs.BranchClimbs.{IsClimbing}
use Rattle.pipe_driver.proofs.climbing.climb.Given as goal

abbrev pub invariant-loop-k : goal.invariant-loop-k
invariant-loop-k l = IsClimbing l.initial.naming l.initial.above l.initial.branch.source l.k l.above l.naming l.branch
