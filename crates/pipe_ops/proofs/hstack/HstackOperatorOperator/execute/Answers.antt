use Rattle.std.proofs.Common.{ap, ◌∙◌}
use Rattle.pipe_ops.specs.Exprs.{exprs_in}
use Rattle.pipe_ops.proofs.Extended.{stacked_by, stacked_each}
use Rattle.pipe_ops.proofs.hstack.HstackOperatorOperator.execute.Goals as goal

pub frame_of-requires-clause-fields : goal.frame_of-requires-clause-fields
frame_of-requires-clause-fields g c = (stacked_by g.P.PhysicalPipedExpr.expr_of c.args.chunk.now.frame c.args.self.now.exprs c.as_slice-exprs.result.now c.args.self.now.input_schema c.in_ok-columns.columns.items c.add_new_columns.new.columns.items c.as_slice-exprs.ensures c.requires.takes.0 c.in_ok-columns.ensures c.in_ok-add_new_columns.ensures c.schema.ensures.good c.requires.takes.2).good

pub frame_of-requires-clause-even : goal.frame_of-requires-clause-even
frame_of-requires-clause-even g c = (stacked_by g.P.PhysicalPipedExpr.expr_of c.args.chunk.now.frame c.args.self.now.exprs c.as_slice-exprs.result.now c.args.self.now.input_schema c.in_ok-columns.columns.items c.add_new_columns.new.columns.items c.as_slice-exprs.ensures c.requires.takes.0 c.in_ok-columns.ensures c.in_ok-add_new_columns.ensures c.schema.ensures.good c.requires.takes.2).even

pub returns-clause-piece : goal.returns-clause-piece
returns-clause-piece g c =
    let whole = (stacked_by g.P.PhysicalPipedExpr.expr_of c.args.chunk.now.frame c.args.self.now.exprs c.as_slice-exprs.result.now c.args.self.now.input_schema c.in_ok-columns.columns.items c.add_new_columns.new.columns.items c.as_slice-exprs.ensures c.requires.takes.0 c.in_ok-columns.ensures c.in_ok-add_new_columns.ensures c.schema.ensures.good c.requires.takes.2).whole in
    (ap (λ p. p.frame.schema) c.with_data.ensures ∙ ap (λ t. t.schema) (c.in_ok-frame.ensures ∙ whole), ap (λ p. p.chunk_index) c.with_data.ensures)

pub returns-clause-gives : goal.returns-clause-gives
returns-clause-gives g c =
    let whole = (stacked_by g.P.PhysicalPipedExpr.expr_of c.args.chunk.now.frame c.args.self.now.exprs c.as_slice-exprs.result.now c.args.self.now.input_schema c.in_ok-columns.columns.items c.add_new_columns.new.columns.items c.as_slice-exprs.ensures c.requires.takes.0 c.in_ok-columns.ensures c.in_ok-add_new_columns.ensures c.schema.ensures.good c.requires.takes.2).whole in
    stacked_each (exprs_in g.P.PhysicalPipedExpr.expr_of c.args.self.now.exprs) c.args.chunk.now.frame _ (ap (λ p. p.frame.rows) c.with_data.ensures ∙ ap (λ t. t.rows) (c.in_ok-frame.ensures ∙ whole))
