use Rattle.std.proofs.Common.{◌≡◌, ◌++◌, drop}
use Rattle.pipe_recon.specs.ReconLines.{row_lines}
use Rattle.pipe_recon.proofs.lines.push_rows.Given as goal

abbrev pub invariant-loop-row : goal.invariant-loop-row
invariant-loop-row l = l.out.items ++ row_lines l.side l.row (drop l.row l.classes) ≡ l.fn.out.items ++ row_lines l.side 0 l.classes
