use Rattle.std.proofs.Common.{◌≡◌, map, take}
use Rattle.pipe_expr.specs.Projections.{row_named}
use Rattle.pipe_plain.proofs.node_rows.named_rows.Given as goal

abbrev pub invariant-loop-row : goal.invariant-loop-row
invariant-loop-row l = l.made ≡ map (row_named l.schema l.names) (take l.row-index l.rows)
