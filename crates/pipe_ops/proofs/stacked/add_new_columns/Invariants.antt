use Rattle.std.proofs.Common.{◌≡◌, ◌++◌, map, drop}
use Rattle.std.specs.List.{AllByRecursion}
use Rattle.pipe_expr.specs.Projections.{new_exprs}
use Rattle.pipe_ops.specs.Exprs.{exprs_in, IsMadeFor, column_of_expr}
use Rattle.pipe_ops.proofs.stacked.add_new_columns.Given as goal

abbrev pub invariant-loop-expr : goal.invariant-loop-expr
invariant-loop-expr g l = record {
  left : AllByRecursion (IsMadeFor g.E.GivesColumn.made_for l.chunk.frame.schema) (drop l.expr-index l.exprs);
  columns : l.columns.items ++ map (column_of_expr l.chunk.frame) (new_exprs l.schema (exprs_in g.E.GivesColumn.named (drop l.expr-index l.exprs))) ≡ l.initial.columns.items ++ map (column_of_expr l.chunk.frame) (new_exprs l.schema (exprs_in g.E.GivesColumn.named l.exprs));
}
