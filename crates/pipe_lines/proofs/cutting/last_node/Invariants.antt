use Rattle.std.proofs.Common.{◌≡◌, drop}
use Rattle.pipe_convert.specs.Steps.{last_of}
use Rattle.pipe_lines.proofs.cutting.last_node.Given as goal

abbrev pub invariant-loop-n : goal.invariant-loop-n
invariant-loop-n l = last_of l.last (drop l.n-index l.operators) ≡ last_of l.start l.operators
