use Rattle.std.proofs.Common.{◌≡◌, take}
use Rattle.pipe_exec.proofs.building.shared_frames.Given as goal

abbrev pub invariant-loop-frame : goal.invariant-loop-frame
invariant-loop-frame l = l.made ≡ take l.frame-index l.frames
