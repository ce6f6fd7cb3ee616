use Rattle.std.proofs.Common.{refl}
use Rattle.pipe_engine.proofs.assembling.give_back.Goals as goal

pub returns-clause-shares : goal.returns-clause-shares
returns-clause-shares g c = record { slots = refl; seats = refl; workers = refl; given = refl }
