use Rattle.pipe_slots.proofs.phys_operator.PhysOperatorFlushParts.begin_flush.Goals as goal

pub returns-clause-work : goal.returns-clause-work
returns-clause-work g c = rw c.in-CallBack.is c.begin_flush.ensures.work
