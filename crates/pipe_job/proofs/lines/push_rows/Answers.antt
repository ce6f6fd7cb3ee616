use Rattle.pipe_job.proofs.Rows.{written_next}
use Rattle.pipe_job.proofs.lines.push_rows.Goals as goal

pub loop-i-preserved : goal.loop-i-preserved
loop-i-preserved c = written_next c.get_columns-columns.result.now c.height-height.result c.loop-i.i _ _ _ c.loop-i-test.true c.in_ok-push_row.ensures c.loop-i.invariant
