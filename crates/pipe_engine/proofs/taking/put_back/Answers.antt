use Rattle.pipe_engine.proofs.Backs.{back_empty, back_put}
use Rattle.pipe_engine.proofs.taking.put_back.Goals as goal

pub returns-in-Empty : goal.returns-in-Empty
returns-in-Empty g c = back_empty c.args.node c.args.slot c.args.seats c.args.slots.now c.in-Empty.is c.requires.empty

pub returns-in_default : goal.returns-in_default
returns-in_default g c =
    back_put c.args.node c.args.slot c.args.seats c.args.slots.now c.put.new.self c.put_seats.new.self
    c.put.ensures.slots c.put.ensures.length c.put.ensures.seats c.put.ensures.workers
    c.put_seats.ensures.seats c.put_seats.ensures.length c.put_seats.ensures.slots c.put_seats.ensures.workers
