use Rattle.std.proofs.Common.{drop}
use Rattle.pipe_why_text.specs.Writing.{Writing}
use Rattle.pipe_why_text.proofs.steps.push_steps.Given as goal

abbrev pub invariant-loop-step : goal.invariant-loop-step
invariant-loop-step l = Writing l.fn.out l.out l.is_first (drop l.step-index l.steps) l.steps
