-- Reconciliations, a kind of inputs: which are sound and which within their limit, and their partners.
use Rattle.std.specs.Prelude.{ℕ, List}
use Rattle.pipe_job.specs.Reading.{ReadsNothing}
use Rattle.pipe_plan.specs.declared.error.PipeError.{PipeError}
use Rattle.pipe_recon.specs.Ends.{IsRefusedReconciliation, IsSoundReconciliation}
use Rattle.pipe_recon.specs.FullJoin.{IsWithin}
use Rattle.pipe_recon.specs.Reconciliation.{reconciliation}
use Rattle.pipe_recon.specs.declared.recon.Recon.{Recon}
use Rattle.pipe_recon.specs.ReconReading.{ReadsNoReconJob, ReadsReconJob}
use Rattle.pipe_recon.specs.declared.recon_job.ReconJob.{ReconJob}
use Rattle.pipe_cli.specs.Contract.{Kind}

-- bytes spell two tables, a key and numbers by the JSON value that is read of them
abbrev pub recon_kind : Kind
recon_kind = record { Input = ReconJob; Reads = ReadsReconJob; ReadsNothing = ReadsNothing; ReadsNone = ReadsNoReconJob }

-- its numbers and its key are good
abbrev pub IsSoundRecon : ReconJob → Type 0
IsSoundRecon job = IsSoundReconciliation job.left job.right job.spec job.config

-- the error by which it is refused
abbrev pub IsRefusedRecon : ReconJob → PipeError → Type 0
IsRefusedRecon job e = IsRefusedReconciliation job.left job.right job.spec job.config e

-- neither of its tables has more rows than its limit, nor has their full join
abbrev pub IsWithinRecon : ReconJob → Type 0
IsWithinRecon job = IsWithin job.config.row_limit job.left job.right job.spec

-- the partners of its rows
abbrev pub recon_of : ReconJob → Recon
recon_of job = reconciliation job.left job.right job.spec
