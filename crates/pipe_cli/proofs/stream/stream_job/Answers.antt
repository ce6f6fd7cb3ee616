use Rattle.std.proofs.Common.{rules}
use Rattle.pipe_job.specs.JobSpelling.{task_of}
use Rattle.pipe_cli.proofs.BlockWriting.{all_failed, all_wrote, height_fits}
use Rattle.pipe_cli.proofs.stream.stream_job.Goals as goal

pub put_frame-requires-clause-height : goal.put_frame-requires-clause-height
put_frame-requires-clause-height g c κs lives = height_fits (task_of c.in_ok-job.job) c.in_ok-frame.frame (search rules) (search rules) (search rules)

pub returns-clause-ok : goal.returns-clause-ok
returns-clause-ok g c =
    all_wrote c.put_frame.result c.args.bytes.items (task_of c.in_ok-job.job) c.in_ok-frame.frame (g.W.RowWriter.seen c.args.out.now) (g.W.RowWriter.seen c.put_frame.new.out)
    (search rules) (search rules) (search rules) (search rules) (search rules) c.put_frame.ensures.wrote

pub returns-clause-err : goal.returns-clause-err
returns-clause-err g c =
    all_failed c.put_frame.result c.args.bytes.items (task_of c.in_ok-job.job) c.in_ok-frame.frame (g.W.RowWriter.seen c.args.out.now) (g.W.RowWriter.seen c.put_frame.new.out)
    (search rules) (search rules) (search rules) (search rules) (search rules) c.put_frame.ensures.only c.put_frame.ensures.front c.put_frame.ensures.cause
