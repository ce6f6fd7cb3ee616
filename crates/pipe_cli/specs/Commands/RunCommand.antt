-- `run` and `run FILE`: the rows of a job.
use Rattle.std.specs.Prelude.{[], ◌∷◌, true}
use Rattle.pipe_driver.specs.Within.{HasTooMany}
use Rattle.pipe_cli.specs.Contract.{Contract}
use Rattle.pipe_cli.specs.Jobs.{IsRefusedJob, IsRowLines, IsSoundJob, IsWithinJob, job_kind}

abbrev pub run : Contract
run = record {
  kind = job_kind;
  IsSound = IsSoundJob;
  IsRefused = IsRefusedJob;
  HasMany = λ job n. HasTooMany job.config.row_limit job.plan job.root n;
  IsWithin = IsWithinJob;
  IsAnswer = IsRowLines;
  asks = true;
  statuses = 0 ∷ 2 ∷ 3 ∷ 4 ∷ 5 ∷ 6 ∷ 7 ∷ 8 ∷ 9 ∷ 10 ∷ [];
}
