use Rattle.std.proofs.Common.{◌∙◌}
use Rattle.pipe_check.proofs.Names.{column_names-next}
use Rattle.pipe_check.proofs.joined.plain_names.Goals as goal

pub loop-expr-preserved : goal.loop-expr-preserved
loop-expr-preserved c = c.in_ok-push_column_name.ensures ∙ column_names-next c.args.exprs.now c.loop-expr.expr-index c.loop-expr.names c.expr-item.result c.loop-expr.invariant c.loop-expr-test.true c.expr-item.is
