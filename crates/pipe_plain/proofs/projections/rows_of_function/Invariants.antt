use Rattle.std.proofs.Common.{◌≡◌, take}
use Rattle.std.specs.List.{flat_map}
use Rattle.pipe_expr.specs.Projections.{function_rows}
use Rattle.pipe_plain.proofs.projections.rows_of_function.Given as goal

abbrev pub invariant-loop-row : goal.invariant-loop-row
invariant-loop-row l = l.made ≡ flat_map (function_rows l.function l.schema) (take l.row-index l.rows)
