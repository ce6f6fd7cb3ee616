use Rattle.std.proofs.Common.{◌≡◌, map, take, drop}
use Rattle.std.specs.List.{AllByRecursion}
use Rattle.pipe_ops.specs.Exprs.{column_over, IsMadeFor}
use Rattle.pipe_ops.proofs.projection.ProjectionOperatorOperator.execute.Given as goal

abbrev pub invariant-loop-expr : goal.invariant-loop-expr
invariant-loop-expr g l = record {
  columns : l.columns.items ≡ map (column_over g.P.PhysicalPipedExpr.expr_of l.chunk.frame) (take l.expr-index l.exprs);
  left : AllByRecursion (IsMadeFor g.P.PhysicalPipedExpr.schema_of l.chunk.frame.schema) (drop l.expr-index l.exprs);
}
