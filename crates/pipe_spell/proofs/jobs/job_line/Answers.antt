use Rattle.std.proofs.lemmas.Result.{IfOk-weaker}
use Rattle.pipe_value.specs.View.{view}
use Rattle.pipe_job.specs.JobSpelling.{task_of}
use Rattle.pipe_spell.proofs.Lined.{line_text, both_read}
use Rattle.pipe_spell.proofs.jobs.job_line.Goals as goal

pub returns-clause-text : goal.returns-clause-text
returns-clause-text c =
    IfOk-weaker c.line_of_value.result _ _
    (λ line text. line_text line.items (view c.in_ok-value.value) (task_of c.args.job.now) c.in_ok-value.ensures.spelled text) c.line_of_value.ensures.text

pub returns-clause-reads_back : goal.returns-clause-reads_back
returns-clause-reads_back c =
    both_read c.line_of_value.result (view c.in_ok-value.value) (task_of c.args.job.now) c.in_ok-value.ensures.spelled c.line_of_value.ensures.utf8 c.line_of_value.ensures.reads_back
