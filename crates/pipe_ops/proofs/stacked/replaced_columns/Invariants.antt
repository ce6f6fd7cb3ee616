use Rattle.std.proofs.Common.{◌≡◌, map, take}
use Rattle.pipe_ops.specs.Exprs.{exprs_in, stacked_column}
use Rattle.pipe_ops.proofs.stacked.replaced_columns.Given as goal

abbrev pub invariant-loop-column : goal.invariant-loop-column
invariant-loop-column g l = l.columns.items ≡ map (stacked_column (exprs_in g.E.GivesColumn.named l.exprs) l.chunk.frame) (take l.column-index l.column-items)
