use Rattle.pipe_cli.proofs.JobLemmas.{told_run}
use Rattle.pipe_job.specs.JobSpelling.{task_of}
use Rattle.pipe_cli.proofs.commands.run.frame_of.Goals as goal

pub returns-in-Err-clause-err : goal.returns-in-Err-clause-err
returns-in-Err-clause-err g c =
    told_run c.refused.result (task_of c.args.job.now) c.in-Err.error c.in-Err.ensures.err c.refused.ensures
