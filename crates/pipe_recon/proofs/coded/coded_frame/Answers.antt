use Rattle.pipe_recon.proofs.CodedFrames.{frame_is}
use Rattle.pipe_recon.proofs.coded.coded_frame.Goals as goal

pub returns-in-Ok : goal.returns-in-Ok
returns-in-Ok c =
    frame_is c.in-Ok.frame c.args.key.now c.args.row.now c.args.codes c.in_ok-coded_columns.field-0.items c.in_ok-coded_columns.ensures c.in-Ok.ensures.schema c.in-Ok.ensures.rows
