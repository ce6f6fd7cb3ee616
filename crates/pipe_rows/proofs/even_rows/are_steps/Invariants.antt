use Rattle.std.proofs.Common.{◌≡◌, drop}
use Rattle.pipe_rows.specs.EvenRows.{are_steps}
use Rattle.pipe_rows.proofs.even_rows.are_steps.Given as goal

abbrev pub invariant-loop-end : goal.invariant-loop-end
invariant-loop-end l = are_steps l.width l.start (drop l.end-index l.ends) ≡ are_steps l.width 0 l.ends
