use Rattle.std.proofs.Common.{subst}
use Rattle.pipe_parts.specs.Least.{IsBest}
use Rattle.pipe_parts.proofs.Best.{pairs-second-none, pairs-both}
use Rattle.pipe_parts.proofs.found.both.Goals as goal

pub returns-in-None-second-clause-best : goal.returns-in-None-second-clause-best
returns-in-None-second-clause-best c = λ plan sizes xs ys h k.
    pairs-second-none plan sizes xs ys (subst (IsBest plan sizes ys) c.in-None-second.is k)

pub returns-in_ok-found-in-Some-second-clause-best : goal.returns-in_ok-found-in-Some-second-clause-best
returns-in_ok-found-in-Some-second-clause-best c = λ plan sizes xs ys h k.
    pairs-both plan sizes xs ys c.in-Some.first c.in-Some-second.second c.in_ok-found-in-Some-second.found (subst (IsBest plan sizes xs) c.in-Some.is h) (subst (IsBest plan sizes ys) c.in-Some-second.is k) c.in_ok-found-in-Some-second.ensures.cuts c.in_ok-found-in-Some-second.ensures.whole
