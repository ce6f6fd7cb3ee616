use Rattle.std.proofs.Common.{◌≡◌, take}
use Rattle.pipe_rows.proofs.even_rows.EvenRows.listed.Given as goal

abbrev pub invariant-loop-i : goal.invariant-loop-i
invariant-loop-i l = l.list ≡ take l.i l.self.rows
