use Rattle.pipe_engine.proofs.Takes.{taken_alone}
use Rattle.pipe_engine.proofs.taking.take_slots.Goals as goal

pub returns : goal.returns
returns g c = taken_alone _ _ _ _ _ _ _ c.new-shared.ensures.items c.new-seats.ensures.items c.in_ok-take_all.ensures
