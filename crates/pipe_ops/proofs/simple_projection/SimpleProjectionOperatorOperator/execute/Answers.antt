use Rattle.std.proofs.Common.{ap, ◌∙◌}
use Rattle.pipe_ops.proofs.NamedFields.{selected_by, named_each}
use Rattle.pipe_ops.proofs.simple_projection.SimpleProjectionOperatorOperator.execute.Goals as goal

pub returns-in-Ok-clause-piece : goal.returns-in-Ok-clause-piece
returns-in-Ok-clause-piece c =
    let whole = selected_by c.args.self.now.columns c.as_slice.result.now c.args.chunk.now.frame c.in-Ok.frame c.get_columns.result.now c.as_slice.ensures c.in-Ok.ensures.ok c.in-Ok.ensures.good c.get_columns.ensures.width c.get_columns.ensures.rows in
    (ap (λ p. p.frame.schema) c.with_data.ensures ∙ ap (λ t. t.schema) whole, ap (λ p. p.chunk_index) c.with_data.ensures)

pub returns-in-Ok-clause-gives : goal.returns-in-Ok-clause-gives
returns-in-Ok-clause-gives c =
    let whole = selected_by c.args.self.now.columns c.as_slice.result.now c.args.chunk.now.frame c.in-Ok.frame c.get_columns.result.now c.as_slice.ensures c.in-Ok.ensures.ok c.in-Ok.ensures.good c.get_columns.ensures.width c.get_columns.ensures.rows in
    named_each c.args.self.now.columns c.args.chunk.now.frame _ (ap (λ p. p.frame.rows) c.with_data.ensures ∙ ap (λ t. t.rows) whole)
