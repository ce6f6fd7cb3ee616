use Rattle.pipe_replay.proofs.RowLists.{picked-next}
use Rattle.pipe_replay.proofs.sources.picked_rows.Goals as goal

pub loop-i-preserved : goal.loop-i-preserved
loop-i-preserved c =
    picked-next c.args.rows.now c.args.from c.loop-i.i c.loop-i.made _ c.loop-i.invariant (rw (c.from.ensures, c.from-in-loop-i.ensures) at c.in_ok-push_row_at.ensures)
