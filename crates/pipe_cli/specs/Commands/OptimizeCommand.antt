-- `optimize`: a job with the same rows, whose filters stand as low as they can and whose scans give what is needed.
use Rattle.std.specs.Prelude.{ℕ, ◌≡◌, ◌≤◌, ◌<◌, [], ◌∷◌, false}
use Rattle.pipe_plan.specs.Faults.{most_nodes}
use Rattle.pipe_cli.specs.Contract.{Contract}
use Rattle.pipe_cli.specs.Jobs.{IsRefusedJob, IsSoundJob, job_kind}
use Rattle.pipe_cli.specs.Optimized.{IsOptimized, most_under, nodes_under}

-- Its rows aren't made. A good job of more nodes than may be rewritten ends with the line of a plan of too many nodes.
abbrev pub optimize : Contract
optimize = record {
  kind = job_kind;
  IsSound = IsSoundJob;
  IsRefused = IsRefusedJob;
  HasMany = λ job n. (n ≡ most_nodes) × (most_under < nodes_under job);
  IsWithin = λ job. nodes_under job ≤ most_under;
  IsAnswer = IsOptimized;
  asks = false;
  statuses = 0 ∷ 2 ∷ 3 ∷ 4 ∷ 5 ∷ 6 ∷ 7 ∷ 9 ∷ 10 ∷ [];
}
