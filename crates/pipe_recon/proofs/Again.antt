-- What is spelled so has the shape.
use Rattle.std.proofs.Common.{◌≡◌, ℕ, Bool, true, false, ◌&&◌, ap, sym, ◌∙◌, true≢false}
use Rattle.serde_json.specs.Data.{Data}
use Rattle.pipe_frame.specs.Frame.{Table}
use Rattle.pipe_job.specs.FrameSpelling.{FrameFits}
use Rattle.pipe_job.proofs.Again.{frame_again, texts_again, unsigned_again, version_again}
use Rattle.pipe_recon.specs.ReconShape.{are_two_frames, is_recon_job}
use Rattle.pipe_recon.specs.ReconSpelling.{PartsFit, Spells, frames_spelling, recon_spelling}
use Rattle.pipe_recon.specs.declared.recon_job.ReconJob.{ReconJob}

recon_job_again : (job : ReconJob) → PartsFit job → is_recon_job (recon_spelling job) ≡ true
recon_job_again job h = rw (
  unsigned_again 32 job.config.chunk_rows h.chunk_rows,
  frame_again job.left h.left,
  frame_again job.right h.right,
  texts_again job.spec.on,
  unsigned_again 32 job.config.row_limit h.row_limit,
  version_again job.version h.version,
  unsigned_again 32 job.config.workers h.workers,
)

-- what has not the shape of a reconciliation is not spelled by one
pub no_recon_job : (v : Data) → is_recon_job v ≡ false → (job : ReconJob) → Spells v job → ⊥
no_recon_job v none job s = true≢false (sym (ap is_recon_job s.spelled ∙ recon_job_again job s.fits.parts) ∙ none)
