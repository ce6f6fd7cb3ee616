use Rattle.std.proofs.Common.{◌≡◌, ◌++◌, take}
use Rattle.pipe_plain.proofs.node_rows.push_rows.Given as goal

abbrev pub invariant-loop-row : goal.invariant-loop-row
invariant-loop-row l = l.made ≡ l.initial.made ++ take l.row-index l.rows
