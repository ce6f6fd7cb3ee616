use Rattle.std.proofs.Common.{◌≡◌, ap, sym, ◌∙◌}
use Rattle.pipe_expr.specs.Projections.{expr_named}
use Rattle.pipe_ops.specs.Exprs.{exprs_in, made_named, stacked_column}
use Rattle.pipe_ops.proofs.StackedColumns.{column_made, column_next, column_stays}
use Rattle.pipe_ops.proofs.stacked.replaced_columns.Goals as goal
use Rattle.pipe_ops.proofs.stacked.replaced_columns.Goals.{in-Some+in_ok-push-in-Some, in-None+in_ok-try_clone-in-None+in_ok-push-in-None}

pub loop-column-preserved : goal.loop-column-preserved
loop-column-preserved g c =
    let frame = c.args.chunk.now.frame in
    let column = c.column-item.result in
    let exprs = exprs_in g.E.GivesColumn.named c.args.exprs.now in
    let named = ap (made_named frame exprs) (sym c.name.ensures) ∙ sym c.in_ok-made.ensures in
    elim c.match-branch-3.branch [
      | in-Some+in_ok-push-in-Some w ↦ column_next (stacked_column exprs frame) c.get_columns-column-items.result.now c.loop-column.columns.items c.match-branch-3.columns.items c.loop-column.column-index column w.in-Some.made c.loop-column.invariant (rw w.columns-is w.in_ok-push-in-Some.ensures.items) c.loop-column-test.true c.column-item.is (column_made frame column w.in-Some.made (expr_named exprs column.name) (named ∙ w.in-Some.is))
      | in-None+in_ok-try_clone-in-None+in_ok-push-in-None w ↦ column_next (stacked_column exprs frame) c.get_columns-column-items.result.now c.loop-column.columns.items c.match-branch-3.columns.items c.loop-column.column-index column w.in_ok-try_clone-in-None.field-0 c.loop-column.invariant (rw w.columns-is w.in_ok-push-in-None.ensures.items) c.loop-column-test.true c.column-item.is (column_stays frame column (expr_named exprs column.name) (named ∙ w.in-None.is) ∙ sym w.in_ok-try_clone-in-None.ensures)
    ]
