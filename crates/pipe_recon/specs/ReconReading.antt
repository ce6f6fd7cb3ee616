-- What is read from bytes: the value of a JSON text, as what is reconciled.
use Rattle.std.specs.Prelude.{ℕ, List}
use Rattle.serde_json.specs.Data.{Data}
use Rattle.pipe_job.specs.Reading.{Reading}
use Rattle.pipe_recon.specs.ReconSpelling.{Spells}
use Rattle.pipe_recon.specs.declared.recon_job.ReconJob.{ReconJob}

-- the bytes read as a value that spells it
pub record ReadsReconJob (bytes : List ℕ) (job : ReconJob) : Type 0 where
  pub value : Data
  pub reading : Reading bytes value
  pub spelled : Spells value job

-- the bytes read as a value that spells none
pub record ReadsNoReconJob (bytes : List ℕ) : Type 0 where
  pub value : Data
  pub reading : Reading bytes value
  pub none : (job : ReconJob) → Spells value job → ⊥
