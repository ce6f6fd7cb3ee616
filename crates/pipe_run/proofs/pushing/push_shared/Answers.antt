use Rattle.pipe_run.proofs.Work.{work-refl, acts-length}
use Rattle.pipe_run.proofs.Limits.{over-none}
use Rattle.pipe_run.proofs.pushing.push_shared.Goals as goal

pub returns-in_default-clause-work : goal.returns-in_default-clause-work
returns-in_default-clause-work g c = work-refl g.O.Operator _

pub returns-in_default-clause-over : goal.returns-in_default-clause-over
returns-in_default-clause-over g c = over-none _ _ _ _ _ _ (acts-length g.O.Operator _ _ _ c.requires.serves)

pub push-requires-clause-chain : goal.push-requires-clause-chain
push-requires-clause-chain g c κs within = rw c.in-Ok.ensures c.requires.chain

pub returns-clause-went : goal.returns-clause-went
returns-clause-went g c = rw c.in-Ok.ensures at c.push.ensures.went

pub returns-clause-over : goal.returns-clause-over
returns-clause-over g c = rw c.in-Ok.ensures at c.push.ensures.over
