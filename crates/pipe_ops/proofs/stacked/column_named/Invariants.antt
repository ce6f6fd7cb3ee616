use Rattle.std.proofs.Common.{◌≡◌, drop}
use Rattle.std.specs.List.{AllByRecursion}
use Rattle.pipe_expr.specs.Projections.{expr_named}
use Rattle.pipe_ops.specs.Exprs.{exprs_in, IsMadeFor}
use Rattle.pipe_ops.proofs.stacked.column_named.Given as goal

abbrev pub invariant-loop-expr : goal.invariant-loop-expr
invariant-loop-expr g l = record {
  left : AllByRecursion (IsMadeFor g.E.GivesColumn.made_for l.chunk.frame.schema) (drop l.expr-index l.exprs);
  none : expr_named (exprs_in g.E.GivesColumn.named (drop l.expr-index l.exprs)) l.name ≡ expr_named (exprs_in g.E.GivesColumn.named l.exprs) l.name;
}
