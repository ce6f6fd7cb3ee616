use Rattle.std.proofs.Common.{ap, ◌∙◌}
use Rattle.pipe_expr.specs.Physical.{expr_column}
use Rattle.pipe_ops.proofs.Filtered.{filter_gives}
use Rattle.pipe_ops.proofs.filter.FilterOperatorOperator.execute.Goals as goal

pub returns-clause-gives : goal.returns-clause-gives
returns-clause-gives g c =
    filter_gives (g.P.PhysicalPipedExpr.expr_of c.args.self.now.predicate.value) c.args.chunk.now.frame c.in_ok-mask.mask _
    (c.in_ok-mask.ensures ∙ ap (λ p. expr_column (g.P.PhysicalPipedExpr.expr_of p) c.args.chunk.now.frame) c.deref.ensures)
    (ap (λ p. p.frame.rows) c.with_data.ensures ∙ ap (λ t. t.rows) c.in_ok-kept.ensures)
