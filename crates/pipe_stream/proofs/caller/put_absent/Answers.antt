use Rattle.std.proofs.Common.{false}
use Rattle.pipe_stream.proofs.StepLemmas.{steps_on}
use Rattle.pipe_stream.proofs.caller.put_absent.Goals as goal

pub put_rest-requires-clause-over : goal.put_rest-requires-clause-over
put_rest-requires-clause-over g c = c.requires.over false

pub returns-in-Ok-clause-steps : goal.returns-in-Ok-clause-steps
returns-in-Ok-clause-steps g c = steps_on _ _ _ _ _ _ _ _ _ _ c.in-Ok.ensures.steps c.put_rest-in-Ok.ensures.steps
