use Rattle.std.proofs.Common.{true}
use Rattle.pipe_stream.proofs.StepLemmas.{steps_on}
use Rattle.pipe_stream.proofs.caller.take_all.Goals as goal

pub returns-in-Err-clause-steps : goal.returns-in-Err-clause-steps
returns-in-Err-clause-steps g c = steps_on true _ _ _ _ _ _ _ _ _ c.loop.invariant.3 c.in-Err.ensures.steps
