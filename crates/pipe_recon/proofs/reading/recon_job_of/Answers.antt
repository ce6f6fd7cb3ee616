use Rattle.std.proofs.Common.{sym, ◌∙◌}
use Rattle.pipe_value.specs.View.{view}
use Rattle.pipe_recon.proofs.OneReconJob.{too_early}
use Rattle.pipe_recon.proofs.reading.recon_job_of.Goals as goal

pub returns-then-has_int128-clause-none : goal.returns-then-has_int128-clause-none
returns-then-has_int128-clause-none c =
    too_early (view c.args.value.now) c.in-Ok.job c.in-Ok.ensures.0 c.in-Ok.ensures.1 c.if-job-eq1.true (sym c.has_int128.ensures ∙ c.if-has_int128.true)
