-- `stream`: the rows of a job, block by block. `run_words` answers it, and `run_program` doesn't know it.
use Rattle.std.specs.Prelude.{ℕ, ◌≡◌, List, [], ◌∷◌, length, map, true}
use Rattle.pipe_driver.specs.Within.{HasTooMany}
use Rattle.pipe_schema.specs.Rows.{Row, SameLines}
use Rattle.pipe_job.specs.JobSpelling.{Task}
use Rattle.pipe_job.specs.Line.{head_line, row_line, lines}
use Rattle.pipe_plan.specs.Node.{Sort}
use Rattle.pipe_plan.specs.PlanRows.{rows_of}
use Rattle.pipe_plan.specs.Schemas.{schema_of}
use Rattle.pipe_plan.specs.Under.{node_at}
use Rattle.pipe_plan.specs.declared.ir.SortOptions.{SortOptions}
use Rattle.pipe_stream.specs.Blocks.{IsBlockOrder, block_count, in_blocks}
use Rattle.pipe_cli.specs.Contract.{Contract}
use Rattle.pipe_cli.specs.Jobs.{IsRefusedJob, IsSoundJob, IsWithinJob, job_kind}

-- a text is the lines of a job's rows, cut into blocks of `chunk_rows` rows, in an order in which the even blocks ascend
-- and the odd ones ascend
pub record IsBlockLines (job : Task) (text : List ℕ) : Type 0 where
  pub list : List Row
  pub order : List ℕ
  pub parity : IsBlockOrder (block_count (length list) job.config.chunk_rows) order
  -- the first line is its plan's schema, the further lines are those of the blocks in that order,
  pub cut : lines text
      ≡ head_line (schema_of job.plan job.root) ∷ map row_line (in_blocks list job.config.chunk_rows order)
  -- they are the lines of the plan's rows, each as often,
  pub same : SameLines (map row_line (in_blocks list job.config.chunk_rows order)) (map row_line (rows_of job.plan job.root))
  -- and the blocks are cut out of the sort's list where the root is a sort
  pub in_order : (input : ℕ) (by : List (List ℕ)) (options : SortOptions)
      → node_at job.plan.nodes job.root ≡ Sort input by options
      → list ≡ rows_of job.plan job.root

abbrev pub stream : Contract
stream = record {
  kind = job_kind;
  IsSound = IsSoundJob;
  IsRefused = IsRefusedJob;
  HasMany = λ job n. HasTooMany job.config.row_limit job.plan job.root n;
  IsWithin = IsWithinJob;
  IsAnswer = IsBlockLines;
  asks = true;
  statuses = 0 ∷ 2 ∷ 3 ∷ 4 ∷ 5 ∷ 6 ∷ 7 ∷ 8 ∷ 9 ∷ 10 ∷ [];
}
