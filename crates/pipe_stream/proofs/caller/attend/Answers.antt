use Rattle.pipe_stream.proofs.StepLemmas.{steps_on}
use Rattle.pipe_stream.proofs.caller.attend.Goals as goal

pub returns-in-Ok-clause-steps : goal.returns-in-Ok-clause-steps
returns-in-Ok-clause-steps g c = steps_on _ _ _ _ _ _ _ _ _ _ c.in-Ok.ensures.steps c.put_absent.ensures.steps
