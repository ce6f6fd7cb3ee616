use Rattle.std.proofs.Common.{take}
use Rattle.pipe_run.specs.Opens.{AreSplit}
use Rattle.pipe_run.proofs.opening.split_stages.Given as goal

abbrev pub invariant-loop-stage : goal.invariant-loop-stage
invariant-loop-stage g l = AreSplit g.O.Operator (take l.stage-index l.stages) l.made.items
