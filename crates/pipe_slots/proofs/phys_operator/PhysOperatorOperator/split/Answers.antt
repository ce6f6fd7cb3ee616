use Rattle.pipe_slots.proofs.Kept.{takes-moved, output-moved, flushed-moved, suits-moved, work-moved, row-works}
use Rattle.pipe_slots.proofs.phys_operator.PhysOperatorOperator.split.Goals as goal

pub returns-in_ok-split-in-Filter-clause-output : goal.returns-in_ok-split-in-Filter-clause-output
returns-in_ok-split-in-Filter-clause-output g c = rw c.in-Filter.is c.in_ok-split-in-Filter.ensures.output

pub returns-in_ok-split-in-Filter-clause-work : goal.returns-in_ok-split-in-Filter-clause-work
returns-in_ok-split-in-Filter-clause-work g c = rw c.in-Filter.is (row-works _ _ c.in_ok-split-in-Filter.ensures.each)

pub returns-in_ok-split-in-SimpleProjection-clause-output : goal.returns-in_ok-split-in-SimpleProjection-clause-output
returns-in_ok-split-in-SimpleProjection-clause-output g c = rw c.in-SimpleProjection.is c.in_ok-split-in-SimpleProjection.ensures.output

pub returns-in_ok-split-in-SimpleProjection-clause-work : goal.returns-in_ok-split-in-SimpleProjection-clause-work
returns-in_ok-split-in-SimpleProjection-clause-work g c = rw c.in-SimpleProjection.is (row-works _ _ c.in_ok-split-in-SimpleProjection.ensures.each)

pub returns-in_ok-split-in-Projection-clause-output : goal.returns-in_ok-split-in-Projection-clause-output
returns-in_ok-split-in-Projection-clause-output g c = rw c.in-Projection.is c.in_ok-split-in-Projection.ensures.output

pub returns-in_ok-split-in-Projection-clause-work : goal.returns-in_ok-split-in-Projection-clause-work
returns-in_ok-split-in-Projection-clause-work g c = rw c.in-Projection.is (row-works _ _ c.in_ok-split-in-Projection.ensures.each)

pub returns-in_ok-split-in-Hstack-clause-output : goal.returns-in_ok-split-in-Hstack-clause-output
returns-in_ok-split-in-Hstack-clause-output g c = rw c.in-Hstack.is c.in_ok-split-in-Hstack.ensures.output

pub returns-in_ok-split-in-Hstack-clause-work : goal.returns-in_ok-split-in-Hstack-clause-work
returns-in_ok-split-in-Hstack-clause-work g c = rw c.in-Hstack.is (row-works _ _ c.in_ok-split-in-Hstack.ensures.each)

pub returns-in_ok-split-in-Function-clause-output : goal.returns-in_ok-split-in-Function-clause-output
returns-in_ok-split-in-Function-clause-output g c = rw c.in-Function.is c.in_ok-split-in-Function.ensures.output

pub returns-in_ok-split-in-Function-clause-work : goal.returns-in_ok-split-in-Function-clause-work
returns-in_ok-split-in-Function-clause-work g c = rw c.in-Function.is (row-works _ _ c.in_ok-split-in-Function.ensures.each)

pub returns-in_ok-split-in-PlaceHolder-clause-takes : goal.returns-in_ok-split-in-PlaceHolder-clause-takes
returns-in_ok-split-in-PlaceHolder-clause-takes g c = rw c.in-PlaceHolder.is (takes-moved _ _ _ _ c.in_ok-split-in-PlaceHolder.ensures.kind c.in_ok-split-in-PlaceHolder.ensures.spec)

pub returns-in_ok-split-in-PlaceHolder-clause-output : goal.returns-in_ok-split-in-PlaceHolder-clause-output
returns-in_ok-split-in-PlaceHolder-clause-output g c = rw c.in-PlaceHolder.is (output-moved _ _ _ _ c.in_ok-split-in-PlaceHolder.ensures.kind c.in_ok-split-in-PlaceHolder.ensures.spec)

pub returns-in_ok-split-in-PlaceHolder-clause-flushed : goal.returns-in_ok-split-in-PlaceHolder-clause-flushed
returns-in_ok-split-in-PlaceHolder-clause-flushed g c = rw c.in-PlaceHolder.is (flushed-moved _ _ _ _ c.in_ok-split-in-PlaceHolder.ensures.kind c.in_ok-split-in-PlaceHolder.ensures.spec)

pub returns-in_ok-split-in-PlaceHolder-clause-suits : goal.returns-in_ok-split-in-PlaceHolder-clause-suits
returns-in_ok-split-in-PlaceHolder-clause-suits g c = rw c.in-PlaceHolder.is (suits-moved _ _ _ _ c.in_ok-split-in-PlaceHolder.ensures.kind c.in_ok-split-in-PlaceHolder.ensures.spec)

pub returns-in_ok-split-in-PlaceHolder-clause-work : goal.returns-in_ok-split-in-PlaceHolder-clause-work
returns-in_ok-split-in-PlaceHolder-clause-work g c = rw c.in-PlaceHolder.is (work-moved _ _ _ _ c.in_ok-split-in-PlaceHolder.ensures.kind c.in_ok-split-in-PlaceHolder.ensures.spec)

pub returns-in_ok-split-in-CallBack-clause-takes : goal.returns-in_ok-split-in-CallBack-clause-takes
returns-in_ok-split-in-CallBack-clause-takes g c = rw c.in-CallBack.is c.in_ok-split-in-CallBack.ensures.takes

pub returns-in_ok-split-in-CallBack-clause-output : goal.returns-in_ok-split-in-CallBack-clause-output
returns-in_ok-split-in-CallBack-clause-output g c = rw c.in-CallBack.is c.in_ok-split-in-CallBack.ensures.output

pub returns-in_ok-split-in-CallBack-clause-flushed : goal.returns-in_ok-split-in-CallBack-clause-flushed
returns-in_ok-split-in-CallBack-clause-flushed g c = rw c.in-CallBack.is c.in_ok-split-in-CallBack.ensures.flushed

pub returns-in_ok-split-in-CallBack-clause-suits : goal.returns-in_ok-split-in-CallBack-clause-suits
returns-in_ok-split-in-CallBack-clause-suits g c = rw c.in-CallBack.is c.in_ok-split-in-CallBack.ensures.suits

pub returns-in_ok-split-in-CallBack-clause-closed : goal.returns-in_ok-split-in-CallBack-clause-closed
returns-in_ok-split-in-CallBack-clause-closed g c = rw c.in-CallBack.is c.in_ok-split-in-CallBack.ensures.closed

pub returns-in_ok-split-in-CallBack-clause-work : goal.returns-in_ok-split-in-CallBack-clause-work
returns-in_ok-split-in-CallBack-clause-work g c = rw c.in-CallBack.is c.in_ok-split-in-CallBack.ensures.work

pub returns-in_ok-split-in-CallBack-clause-acts : goal.returns-in_ok-split-in-CallBack-clause-acts
returns-in_ok-split-in-CallBack-clause-acts g c = c.in_ok-split-in-CallBack.ensures.acts

pub returns-in_ok-split-in-CallBack-clause-idle : goal.returns-in_ok-split-in-CallBack-clause-idle
returns-in_ok-split-in-CallBack-clause-idle g c = c.in_ok-split-in-CallBack.ensures.idle
