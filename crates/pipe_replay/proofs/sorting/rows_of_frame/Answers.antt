use Rattle.std.proofs.Common.{◌∙◌}
use Rattle.pipe_plain.proofs.FrameRows.{read-next}
use Rattle.pipe_replay.proofs.sorting.rows_of_frame.Goals as goal

pub loop-i-preserved : goal.loop-i-preserved
loop-i-preserved c = c.in_ok-push.ensures.ok ∙ read-next c.args.frame.now.rows c.loop-i.rows c.loop-i.i c.in_ok-row.field-0 c.loop-i.invariant c.in_ok-row.ensures
