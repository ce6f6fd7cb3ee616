use Rattle.std.proofs.Common.{true}
use Rattle.pipe_stream.proofs.StepLemmas.{steps_on}
use Rattle.pipe_stream.proofs.desk.put_rest.Goals as goal

pub returns-in-Err-clause-steps : goal.returns-in-Err-clause-steps
returns-in-Err-clause-steps g c = steps_on true _ _ _ _ _ _ _ _ _ c.loop-number.invariant.1 c.in-Err.ensures.steps
