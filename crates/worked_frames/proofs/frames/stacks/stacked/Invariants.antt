use Rattle.worked_frames.specs.Numbers.{HoldsNumbers}
use Rattle.worked_frames.proofs.frames.stacks.stacked.Given as goal

abbrev pub invariant-loop-rows : goal.invariant-loop-rows
invariant-loop-rows l = HoldsNumbers l.stacker
