use Rattle.std.proofs.Common.{take}
use Rattle.std.specs.Prelude.{All}
use Rattle.pipe_events.specs.Fitting.{TableFits}
use Rattle.pipe_events.proofs.fitting.frames_fit.Given as goal

abbrev pub invariant-loop-frame : goal.invariant-loop-frame
invariant-loop-frame l = All TableFits (take l.frame-index l.frames)
