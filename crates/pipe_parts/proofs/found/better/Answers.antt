use Rattle.std.proofs.Common.{subst, arith}
use Rattle.pipe_parts.specs.Least.{IsBest}
use Rattle.pipe_parts.proofs.Best.{best-first, best-second}
use Rattle.pipe_parts.proofs.found.better.Goals as goal

pub returns-then-second-first-clause-best : goal.returns-then-second-first-clause-best
returns-then-second-first-clause-best c = λ plan sizes xs ys h k.
    best-second plan sizes xs ys c.in-Some.first c.in-Some-second.second (subst (IsBest plan sizes xs) c.in-Some.is h) (subst (IsBest plan sizes ys) c.in-Some-second.is k) (omega (arith, c.if-second-first.true))

pub returns-else-second-first-clause-best : goal.returns-else-second-first-clause-best
returns-else-second-first-clause-best c = λ plan sizes xs ys h k.
    best-first plan sizes xs ys c.in-Some.first c.in-Some-second.second (subst (IsBest plan sizes xs) c.in-Some.is h) (subst (IsBest plan sizes ys) c.in-Some-second.is k) (omega (arith, c.if-second-first.false))
