use Rattle.std.proofs.Common.{◌≡◌, filter, take}
use Rattle.pipe_expr.specs.Formula.{formula_of}
use Rattle.pipe_expr.specs.Projections.{passes}
use Rattle.pipe_plain.proofs.projections.filtered.Given as goal

abbrev pub invariant-loop-row : goal.invariant-loop-row
invariant-loop-row l = l.kept ≡ filter (passes (formula_of l.predicate) l.schema) (take l.row-index l.rows)
