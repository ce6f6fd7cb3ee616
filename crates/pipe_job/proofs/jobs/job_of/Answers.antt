use Rattle.std.proofs.Common.{sym, ◌∙◌}
use Rattle.pipe_value.specs.View.{view}
use Rattle.pipe_job.specs.JobSpelling.{task_of}
use Rattle.pipe_job.proofs.OneJob.{too_early}
use Rattle.pipe_job.proofs.jobs.job_of.Goals as goal

pub returns-then-arena_has_int128-clause-none : goal.returns-then-arena_has_int128-clause-none
returns-then-arena_has_int128-clause-none c =
    too_early (view c.args.value.now) (task_of c.in-Ok.job) c.in-Ok.ensures.0 c.in-Ok.ensures.1 c.if-job-eq1.true (sym c.arena_has_int128.ensures ∙ c.if-arena_has_int128.true)
