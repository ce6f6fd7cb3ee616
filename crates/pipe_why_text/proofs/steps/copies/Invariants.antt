use Rattle.std.proofs.Common.{◌≡◌, take}
use Rattle.pipe_why_text.proofs.steps.copies.Given as goal

abbrev pub invariant-loop-step : goal.invariant-loop-step
invariant-loop-step l = l.copied.items ≡ take l.step-index l.steps
