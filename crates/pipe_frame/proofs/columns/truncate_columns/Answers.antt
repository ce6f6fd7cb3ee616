use Rattle.pipe_column.specs.Columns.{front_column}
use Rattle.pipe_frame.proofs.RowOps.{fronted-more}
use Rattle.pipe_frame.proofs.columns.truncate_columns.Goals as goal

pub loop-column-preserved : goal.loop-column-preserved
loop-column-preserved c = fronted-more (front_column c.args.count) c.args.columns.now c.loop-column.column-index c.column-item.result c.truncate.new.self c.loop-column.invariant c.loop-column-test.true c.column-item.is c.truncate.ensures
