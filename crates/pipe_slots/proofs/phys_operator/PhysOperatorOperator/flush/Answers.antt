use Rattle.pipe_slots.proofs.phys_operator.PhysOperatorOperator.flush.Goals as goal

pub returns-in-CallBack-clause-takes : goal.returns-in-CallBack-clause-takes
returns-in-CallBack-clause-takes g c = rw c.in-CallBack.is c.flush.ensures.takes

pub returns-in-CallBack-clause-output : goal.returns-in-CallBack-clause-output
returns-in-CallBack-clause-output g c = rw c.in-CallBack.is c.flush.ensures.output

pub returns-in-CallBack-clause-flushed : goal.returns-in-CallBack-clause-flushed
returns-in-CallBack-clause-flushed g c = rw c.in-CallBack.is c.flush.ensures.flushed

pub returns-in-CallBack-clause-suits : goal.returns-in-CallBack-clause-suits
returns-in-CallBack-clause-suits g c = rw c.in-CallBack.is c.flush.ensures.suits

pub returns-in-CallBack-clause-seated : goal.returns-in-CallBack-clause-seated
returns-in-CallBack-clause-seated g c = rw c.in-CallBack.is c.flush.ensures.seated

pub returns-in-CallBack-clause-closed : goal.returns-in-CallBack-clause-closed
returns-in-CallBack-clause-closed g c = c.flush.ensures.closed

pub returns-in-CallBack-clause-work : goal.returns-in-CallBack-clause-work
returns-in-CallBack-clause-work g c = rw c.in-CallBack.is c.flush.ensures.work

pub returns-in-CallBack-clause-acts : goal.returns-in-CallBack-clause-acts
returns-in-CallBack-clause-acts g c = rw c.in-CallBack.is c.flush.ensures.acts

pub returns-in-CallBack-clause-piece : goal.returns-in-CallBack-clause-piece
returns-in-CallBack-clause-piece g c = rw c.in-CallBack.is c.flush.ensures.piece

pub returns-in-CallBack-clause-gives : goal.returns-in-CallBack-clause-gives
returns-in-CallBack-clause-gives g c = rw c.in-CallBack.is c.flush.ensures.gives

pub returns-in-CallBack-clause-more : goal.returns-in-CallBack-clause-more
returns-in-CallBack-clause-more g c = c.flush.ensures.more

pub returns-in-CallBack-clause-done : goal.returns-in-CallBack-clause-done
returns-in-CallBack-clause-done g c = rw c.in-CallBack.is c.flush.ensures.done

pub returns-in-CallBack-clause-undue : goal.returns-in-CallBack-clause-undue
returns-in-CallBack-clause-undue g c = rw c.in-CallBack.is c.flush.ensures.undue
