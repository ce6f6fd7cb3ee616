use Rattle.pipe_selftest.proofs.Drawn.{frame_is}
use Rattle.pipe_selftest.proofs.frames.frame_from.Goals as goal

pub returns-in-Ok-clause-frame : goal.returns-in-Ok-clause-frame
returns-in-Ok-clause-frame c =
    frame_is c.in-Ok.frame c.args.start c.args.name.now c.args.rows c.in_ok-columns.columns.items c.in_ok-columns.ensures.columns c.in-Ok.ensures.schema c.in-Ok.ensures.rows
