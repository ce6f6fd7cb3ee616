use Rattle.std.proofs.Common.{rules, take, get_or}
use Rattle.pipe_rows.proofs.FillingLemmas.{started_more, take_one}
use Rattle.pipe_rows.proofs.filling.RowFiller.new.Goals as goal

pub loop-width-preserved : goal.loop-width-preserved
loop-width-preserved c =
    started_more c.loop-width.cursors.items c.loop-width.ends.items (take c.loop-width.width-index c.args.widths.now) c.loop-width.end (get_or c.args.widths.now c.loop-width.width-index 0) c.in-Some.next
    c.loop-width.invariant (search rules) c.in_ok-push.ensures.items c.in_ok-push-2.ensures.items (take_one c.args.widths.now c.loop-width.width-index (search rules))
