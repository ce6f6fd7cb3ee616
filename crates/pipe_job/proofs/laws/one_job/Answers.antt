use Rattle.pipe_job.proofs.OneJob.{one_job}
use Rattle.pipe_job.proofs.laws.one_job.Goals as goal

pub returns : goal.returns
returns c = one_job
