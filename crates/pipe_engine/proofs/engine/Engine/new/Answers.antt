use Rattle.std.proofs.Common.{refl}
use Rattle.pipe_engine.proofs.engine.Engine.new.Goals as goal

pub returns-clause-shares : goal.returns-clause-shares
returns-clause-shares g c = record { slots = refl; seats = refl; workers = refl; given = refl }

pub returns-clause-none_open : goal.returns-clause-none_open
returns-clause-none_open g c = c.in_ok-sinks.ensures.empty
