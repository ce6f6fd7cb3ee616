use Rattle.std.proofs.Common.{◌≡◌, ◌++◌, drop}
use Rattle.pipe_view.specs.EditLines.{outcome_lines}
use Rattle.pipe_view.proofs.lines.push_outcomes.Given as goal

abbrev pub invariant-loop-number : goal.invariant-loop-number
invariant-loop-number l = l.out.items ++ outcome_lines l.number (drop l.number l.outcomes) ≡ l.fn.out.items ++ outcome_lines 0 l.outcomes
