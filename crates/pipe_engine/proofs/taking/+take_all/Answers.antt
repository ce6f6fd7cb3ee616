use Rattle.std.proofs.lemmas.List.{nil_from_length}
use Rattle.pipe_passage.proofs.Results.{on-ok}
use Rattle.pipe_engine.proofs.Takes.{apart_alone, taken_none, behind_more}
use Rattle.pipe_engine.proofs.taking.+take_all.Goals as goal

pub returns-in_default : goal.returns-in_default
returns-in_default g t c = rw (nil_from_length c.args.stages.now c.in_default.ensures.cases) (taken_none c.args.slots.now _ _)

pub take_own-slot-requires-clause-there : goal.take_own-slot-requires-clause-there
take_own-slot-requires-clause-there g t c = apart_alone _ _ _ (rw c.in-Some.ensures.cases.0 at c.requires.apart).0

pub take_own-slot-requires-clause-seats_there : goal.take_own-slot-requires-clause-seats_there
take_own-slot-requires-clause-seats_there g t c = apart_alone _ _ _ (rw c.in-Some.ensures.cases.0 at c.requires.seats_apart).0

pub returns : goal.returns
returns g t c =
    rw c.in-Some.ensures.cases.0
    (on-ok c.take_all.result (λ all. behind_more _ _ _ _ _ _ _ _ _ _ _ _ _ _ (rw c.in-Some.ensures.cases.0 at c.requires.apart).0 c.take_own-slot.ensures c.in_ok-push.ensures.items c.in_ok-push-2.ensures.items all) c.take_all.ensures)
