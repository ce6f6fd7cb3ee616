use Rattle.std.proofs.Common.{drop}
use Rattle.pipe_lines.proofs.CutSteps.{IsCutting}
use Rattle.pipe_lines.proofs.cutting.cut_stages.Given as goal

abbrev pub invariant-loop-n : goal.invariant-loop-n
invariant-loop-n g l = IsCutting l.nodes (drop l.n-index l.nodes) l.start l.given l.initial.operators.items l.operators.items l.stages.items
