use Rattle.std.proofs.Common.{refl}
use Rattle.pipe_engine.proofs.Takes.{own_placed, own_none}
use Rattle.pipe_engine.proofs.taking.take_own.Goals as goal

pub take-slot-requires : goal.take-slot-requires
take-slot-requires g c = record { there = rw c.node-node.ensures (rw c.in-PlaceHolder.is at c.requires.there).1 }

pub take_seats-seats-requires : goal.take_seats-seats-requires
take_seats-seats-requires g c = record { there = rw (c.node-node.ensures, c.take-slot.ensures.seats) (rw c.in-PlaceHolder.is at c.requires.seats_there).1 }

pub returns-in-PlaceHolder : goal.returns-in-PlaceHolder
returns-in-PlaceHolder g c =
    rw c.in-PlaceHolder.is (own_placed _ c.node-node.result c.args.slots.now c.take-slot.new.self c.take_seats-seats.new.self c.take-slot.result c.take_seats-seats.result c.node-node.ensures
    c.take-slot.ensures.taken c.take-slot.ensures.slots c.take-slot.ensures.length c.take-slot.ensures.seats c.take-slot.ensures.workers
    c.take_seats-seats.ensures.taken c.take_seats-seats.ensures.seats c.take_seats-seats.ensures.length c.take_seats-seats.ensures.slots c.take_seats-seats.ensures.workers)

pub returns-in-Filter : goal.returns-in-Filter
returns-in-Filter g c = rw c.in-Filter.is (own_none _ c.args.slots.now c.new.result refl refl (λ k. refl) c.new.ensures)

pub returns-in-SimpleProjection : goal.returns-in-SimpleProjection
returns-in-SimpleProjection g c = rw c.in-SimpleProjection.is (own_none _ c.args.slots.now c.new-in-SimpleProjection.result refl refl (λ k. refl) c.new-in-SimpleProjection.ensures)

pub returns-in-Projection : goal.returns-in-Projection
returns-in-Projection g c = rw c.in-Projection.is (own_none _ c.args.slots.now c.new-in-Projection.result refl refl (λ k. refl) c.new-in-Projection.ensures)

pub returns-in-Hstack : goal.returns-in-Hstack
returns-in-Hstack g c = rw c.in-Hstack.is (own_none _ c.args.slots.now c.new-in-Hstack.result refl refl (λ k. refl) c.new-in-Hstack.ensures)

pub returns-in-Function : goal.returns-in-Function
returns-in-Function g c = rw c.in-Function.is (own_none _ c.args.slots.now c.new-in-Function.result refl refl (λ k. refl) c.new-in-Function.ensures)

pub returns-in-Pass : goal.returns-in-Pass
returns-in-Pass g c = rw c.in-Pass.is (own_none _ c.args.slots.now c.new-in-Pass.result refl refl (λ k. refl) c.new-in-Pass.ensures)

pub returns-in-CallBack : goal.returns-in-CallBack
returns-in-CallBack g c = rw c.in-CallBack.is (own_none _ c.args.slots.now c.new-in-CallBack.result refl refl (λ k. refl) c.new-in-CallBack.ensures)
