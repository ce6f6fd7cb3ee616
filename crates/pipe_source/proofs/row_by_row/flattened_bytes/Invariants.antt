use Rattle.std.proofs.Common.{◌≡◌, map}
use Rattle.pipe_schema.specs.Cell.{binary_cell}
use Rattle.pipe_source.specs.Lent.{cells_between}
use Rattle.pipe_source.proofs.row_by_row.flattened_bytes.Given as goal

abbrev pub invariant-loop-i : goal.invariant-loop-i
invariant-loop-i l = map binary_cell l.made ≡ cells_between l.columns l.from l.i
