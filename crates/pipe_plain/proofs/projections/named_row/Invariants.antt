use Rattle.std.proofs.Common.{◌≡◌, map, take}
use Rattle.pipe_expr.specs.Values.{named_cell}
use Rattle.pipe_plain.proofs.projections.named_row.Given as goal

abbrev pub invariant-loop-name : goal.invariant-loop-name
invariant-loop-name l = l.cells ≡ map (named_cell l.schema l.row) (take l.name-index l.names)
