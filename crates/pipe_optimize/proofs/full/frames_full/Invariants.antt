use Rattle.std.proofs.Common.{◌≡◌, ◌<◌, ℕ, false}
use Rattle.pipe_plan.specs.Schemas.{frame_at}
use Rattle.pipe_plan.specs.Faults.{is_empty}
use Rattle.pipe_optimize.proofs.full.frames_full.Given as goal

abbrev pub invariant-loop-frame : goal.invariant-loop-frame
invariant-loop-frame l = (k : ℕ) → k < l.frame-index → is_empty (frame_at l.frames k).schema ≡ false
