use Rattle.pipe_chain.proofs.PlainPays.{plain-memory}
use Rattle.pipe_slots.proofs.Kept.{row-works, plain-given}
use Rattle.pipe_slots.proofs.phys_operator.PhysOperatorOperator.execute.Goals as goal

pub returns-in-Filter-clause-output : goal.returns-in-Filter-clause-output
returns-in-Filter-clause-output g c = rw c.in-Filter.is c.execute.ensures.output

pub returns-in-Filter-clause-work : goal.returns-in-Filter-clause-work
returns-in-Filter-clause-work g c = rw c.in-Filter.is (row-works _ _ c.execute.ensures.each)

pub returns-in-Filter-clause-gives : goal.returns-in-Filter-clause-gives
returns-in-Filter-clause-gives g c = rw c.in-Filter.is (plain-given _ _ _ c.execute.result c.execute.ensures.gives)

pub returns-in-Filter-clause-memory : goal.returns-in-Filter-clause-memory
returns-in-Filter-clause-memory g c = rw c.in-Filter.is (plain-memory c.execute.result _)

pub returns-in-SimpleProjection-clause-output : goal.returns-in-SimpleProjection-clause-output
returns-in-SimpleProjection-clause-output g c = rw c.in-SimpleProjection.is c.execute-in-SimpleProjection.ensures.output

pub returns-in-SimpleProjection-clause-work : goal.returns-in-SimpleProjection-clause-work
returns-in-SimpleProjection-clause-work g c = rw c.in-SimpleProjection.is (row-works _ _ c.execute-in-SimpleProjection.ensures.each)

pub returns-in-SimpleProjection-clause-gives : goal.returns-in-SimpleProjection-clause-gives
returns-in-SimpleProjection-clause-gives g c = rw c.in-SimpleProjection.is (plain-given _ _ _ c.execute-in-SimpleProjection.result c.execute-in-SimpleProjection.ensures.gives)

pub returns-in-SimpleProjection-clause-memory : goal.returns-in-SimpleProjection-clause-memory
returns-in-SimpleProjection-clause-memory g c = rw c.in-SimpleProjection.is (plain-memory c.execute-in-SimpleProjection.result _)

pub returns-in-Projection-clause-output : goal.returns-in-Projection-clause-output
returns-in-Projection-clause-output g c = rw c.in-Projection.is c.execute-in-Projection.ensures.output

pub returns-in-Projection-clause-work : goal.returns-in-Projection-clause-work
returns-in-Projection-clause-work g c = rw c.in-Projection.is (row-works _ _ c.execute-in-Projection.ensures.each)

pub returns-in-Projection-clause-gives : goal.returns-in-Projection-clause-gives
returns-in-Projection-clause-gives g c = rw c.in-Projection.is (plain-given _ _ _ c.execute-in-Projection.result c.execute-in-Projection.ensures.gives)

pub returns-in-Projection-clause-memory : goal.returns-in-Projection-clause-memory
returns-in-Projection-clause-memory g c = rw c.in-Projection.is (plain-memory c.execute-in-Projection.result _)

pub returns-in-Hstack-clause-output : goal.returns-in-Hstack-clause-output
returns-in-Hstack-clause-output g c = rw c.in-Hstack.is c.execute-in-Hstack.ensures.output

pub returns-in-Hstack-clause-work : goal.returns-in-Hstack-clause-work
returns-in-Hstack-clause-work g c = rw c.in-Hstack.is (row-works _ _ c.execute-in-Hstack.ensures.each)

pub returns-in-Hstack-clause-gives : goal.returns-in-Hstack-clause-gives
returns-in-Hstack-clause-gives g c = rw c.in-Hstack.is (plain-given _ _ _ c.execute-in-Hstack.result c.execute-in-Hstack.ensures.gives)

pub returns-in-Hstack-clause-memory : goal.returns-in-Hstack-clause-memory
returns-in-Hstack-clause-memory g c = rw c.in-Hstack.is (plain-memory c.execute-in-Hstack.result _)

pub returns-in-Function-clause-output : goal.returns-in-Function-clause-output
returns-in-Function-clause-output g c = rw c.in-Function.is c.execute-in-Function.ensures.output

pub returns-in-Function-clause-work : goal.returns-in-Function-clause-work
returns-in-Function-clause-work g c = rw c.in-Function.is (row-works _ _ c.execute-in-Function.ensures.each)

pub returns-in-Function-clause-gives : goal.returns-in-Function-clause-gives
returns-in-Function-clause-gives g c = rw c.in-Function.is (plain-given _ _ _ c.execute-in-Function.result c.execute-in-Function.ensures.gives)

pub returns-in-Function-clause-memory : goal.returns-in-Function-clause-memory
returns-in-Function-clause-memory g c = rw c.in-Function.is (plain-memory c.execute-in-Function.result _)

pub returns-in-Pass-clause-output : goal.returns-in-Pass-clause-output
returns-in-Pass-clause-output g c = rw c.in-Pass.is c.execute-in-Pass.ensures.output

pub returns-in-Pass-clause-work : goal.returns-in-Pass-clause-work
returns-in-Pass-clause-work g c = rw c.in-Pass.is (row-works _ _ c.execute-in-Pass.ensures.each)

pub returns-in-Pass-clause-gives : goal.returns-in-Pass-clause-gives
returns-in-Pass-clause-gives g c = rw c.in-Pass.is (plain-given _ _ _ c.execute-in-Pass.result c.execute-in-Pass.ensures.gives)

pub returns-in-Pass-clause-memory : goal.returns-in-Pass-clause-memory
returns-in-Pass-clause-memory g c = rw c.in-Pass.is (plain-memory c.execute-in-Pass.result _)

pub returns-in-CallBack-clause-takes : goal.returns-in-CallBack-clause-takes
returns-in-CallBack-clause-takes g c = rw c.in-CallBack.is c.execute-in-CallBack.ensures.takes

pub returns-in-CallBack-clause-output : goal.returns-in-CallBack-clause-output
returns-in-CallBack-clause-output g c = rw c.in-CallBack.is c.execute-in-CallBack.ensures.output

pub returns-in-CallBack-clause-flushed : goal.returns-in-CallBack-clause-flushed
returns-in-CallBack-clause-flushed g c = rw c.in-CallBack.is c.execute-in-CallBack.ensures.flushed

pub returns-in-CallBack-clause-suits : goal.returns-in-CallBack-clause-suits
returns-in-CallBack-clause-suits g c = rw c.in-CallBack.is c.execute-in-CallBack.ensures.suits

pub returns-in-CallBack-clause-seated : goal.returns-in-CallBack-clause-seated
returns-in-CallBack-clause-seated g c = rw c.in-CallBack.is c.execute-in-CallBack.ensures.seated

pub returns-in-CallBack-clause-closed : goal.returns-in-CallBack-clause-closed
returns-in-CallBack-clause-closed g c = rw c.in-CallBack.is c.execute-in-CallBack.ensures.closed

pub returns-in-CallBack-clause-work : goal.returns-in-CallBack-clause-work
returns-in-CallBack-clause-work g c = rw c.in-CallBack.is c.execute-in-CallBack.ensures.work

pub returns-in-CallBack-clause-piece : goal.returns-in-CallBack-clause-piece
returns-in-CallBack-clause-piece g c = rw c.in-CallBack.is c.execute-in-CallBack.ensures.piece

pub returns-in-CallBack-clause-gives : goal.returns-in-CallBack-clause-gives
returns-in-CallBack-clause-gives g c = rw c.in-CallBack.is c.execute-in-CallBack.ensures.gives

pub returns-in-CallBack-clause-answers : goal.returns-in-CallBack-clause-answers
returns-in-CallBack-clause-answers g c = rw c.in-CallBack.is c.execute-in-CallBack.ensures.answers

pub returns-in-CallBack-clause-memory : goal.returns-in-CallBack-clause-memory
returns-in-CallBack-clause-memory g c = rw c.in-CallBack.is c.execute-in-CallBack.ensures.memory

pub returns-in-CallBack-clause-more : goal.returns-in-CallBack-clause-more
returns-in-CallBack-clause-more g c = c.execute-in-CallBack.ensures.more

pub returns-in-CallBack-clause-done : goal.returns-in-CallBack-clause-done
returns-in-CallBack-clause-done g c = c.execute-in-CallBack.ensures.done
