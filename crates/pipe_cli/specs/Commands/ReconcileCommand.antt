-- `reconcile`: the partners of the rows of two tables.
use Rattle.std.specs.Prelude.{◌≡◌, [], ◌∷◌, true}
use Rattle.pipe_recon.specs.FullJoin.{HasTooMany}
use Rattle.pipe_recon.specs.ReconLines.{recon_lines}
use Rattle.pipe_cli.specs.Contract.{Contract}
use Rattle.pipe_cli.specs.Recons.{IsRefusedRecon, IsSoundRecon, IsWithinRecon, recon_kind, recon_of}

abbrev pub reconcile : Contract
reconcile = record {
  kind = recon_kind;
  IsSound = IsSoundRecon;
  IsRefused = IsRefusedRecon;
  HasMany = λ job n. HasTooMany job.config.row_limit job.left job.right job.spec n;
  IsWithin = IsWithinRecon;
  IsAnswer = λ job text. text ≡ recon_lines (recon_of job);
  asks = true;
  statuses = 0 ∷ 2 ∷ 3 ∷ 4 ∷ 5 ∷ 6 ∷ 7 ∷ 8 ∷ 9 ∷ 10 ∷ [];
}
