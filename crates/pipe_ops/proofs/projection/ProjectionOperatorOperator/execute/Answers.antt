use Rattle.std.proofs.Common.{ap, ◌∙◌}
use Rattle.pipe_ops.specs.Exprs.{exprs_in}
use Rattle.pipe_ops.proofs.Projected.{AreTable, projected, columns_made, projected_each}
use Rattle.pipe_ops.proofs.projection.ProjectionOperatorOperator.execute.Goals as goal

made : (g : _) (c : goal.After-loop-expr g) → AreTable c.loop-expr.columns.items (projected (exprs_in g.P.PhysicalPipedExpr.expr_of c.args.self.now.exprs) c.args.chunk.now.frame)
made g c = columns_made g.P.PhysicalPipedExpr.expr_of c.args.chunk.now.frame c.args.self.now.exprs c.as_slice-exprs.result.now c.loop-expr.columns.items c.loop-expr.expr-index c.as_slice-exprs.ensures c.loop-expr.invariant.columns c.loop-expr-test.false c.requires.takes.1

pub frame_of-requires-clause-fields : goal.frame_of-requires-clause-fields
frame_of-requires-clause-fields g c = (made g c).good

pub frame_of-requires-clause-even : goal.frame_of-requires-clause-even
frame_of-requires-clause-even g c = (made g c).even

pub returns-clause-piece : goal.returns-clause-piece
returns-clause-piece g c =
    let whole = (columns_made g.P.PhysicalPipedExpr.expr_of c.args.chunk.now.frame c.args.self.now.exprs c.as_slice-exprs.result.now c.loop-expr.columns.items c.loop-expr.expr-index c.as_slice-exprs.ensures c.loop-expr.invariant.columns c.loop-expr-test.false c.requires.takes.1).whole in
    (ap (λ p. p.frame.schema) c.with_data.ensures ∙ ap (λ t. t.schema) (c.in_ok-frame.ensures ∙ whole), ap (λ p. p.chunk_index) c.with_data.ensures)

pub returns-clause-gives : goal.returns-clause-gives
returns-clause-gives g c =
    let whole = (columns_made g.P.PhysicalPipedExpr.expr_of c.args.chunk.now.frame c.args.self.now.exprs c.as_slice-exprs.result.now c.loop-expr.columns.items c.loop-expr.expr-index c.as_slice-exprs.ensures c.loop-expr.invariant.columns c.loop-expr-test.false c.requires.takes.1).whole in
    projected_each (exprs_in g.P.PhysicalPipedExpr.expr_of c.args.self.now.exprs) c.args.chunk.now.frame _ (ap (λ p. p.frame.rows) c.with_data.ensures ∙ ap (λ t. t.rows) (c.in_ok-frame.ensures ∙ whole))
