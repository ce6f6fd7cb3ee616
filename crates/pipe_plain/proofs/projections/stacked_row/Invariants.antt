use Rattle.std.proofs.Common.{◌≡◌, map, take}
use Rattle.pipe_expr.specs.Formula.{named_formula_of}
use Rattle.pipe_expr.specs.Projections.{stacked_cell}
use Rattle.pipe_plain.proofs.projections.stacked_row.Given as goal

abbrev pub invariant-loop-field : goal.invariant-loop-field
invariant-loop-field l = l.cells ≡ map (stacked_cell l.schema (map named_formula_of l.exprs) l.row) (take l.field-index l.schema)
