use Rattle.pipe_cli.proofs.JobLemmas.{run_answer}
use Rattle.pipe_job.specs.JobSpelling.{task_of}
use Rattle.pipe_cli.proofs.commands.run.run.Goals as goal

pub returns-clause-ok : goal.returns-clause-ok
returns-clause-ok g c =
    run_answer _ _ (task_of c.in_ok-job.job) c.in_ok-frame.frame c.in_ok-job.ensures.ok c.in_ok-frame.ensures.sound c.in_ok-frame.ensures.within c.in_ok-frame.ensures.schema c.in_ok-frame.ensures.rows c.in_ok-text.ensures
