-- Jobs, a kind of inputs: which are sound and which within their limit, and what is written of them.
use Rattle.std.specs.Prelude.{ℕ, ◌≡◌, ◌⊎◌, List, [], ◌∷◌, ◌++◌, false, map}
use Rattle.std.specs.List.{flat_map}
use Rattle.pipe_driver.specs.Texts.{texts}
use Rattle.pipe_driver.specs.Within.{AllWithin}
use Rattle.pipe_cli.specs.FaultLine.{fault_line, fault_status}
use Rattle.pipe_schema.specs.Rows.{SameLines}
use Rattle.pipe_exec.specs.Sound.{IsRefusedRun, IsSoundRun}
use Rattle.pipe_plan.specs.Node.{Sort}
use Rattle.pipe_plan.specs.PlanRows.{rows_of}
use Rattle.pipe_plan.specs.Schemas.{schema_of}
use Rattle.pipe_plan.specs.Under.{node_at}
use Rattle.pipe_plan.specs.declared.error.PipeError.{PipeError}
use Rattle.pipe_plan.specs.declared.ir.SortOptions.{SortOptions}
use Rattle.pipe_job.specs.JobSpelling.{Task}
use Rattle.pipe_job.specs.Line.{head_line, row_line, lines}
use Rattle.pipe_job.specs.Reading.{ReadsJob, ReadsNoJob, ReadsNothing}
use Rattle.pipe_cli.specs.Contract.{Contract, Kind}
use Rattle.pipe_cli.specs.declared.status.Refusal.{Refusal}
use Rattle.pipe_cli.specs.declared.status.Refusal.TheVariants as refusal

-- bytes spell a job by the JSON value that is read of them
abbrev pub job_kind : Kind
job_kind = record { Input = Task; Reads = ReadsJob; ReadsNothing = ReadsNothing; ReadsNone = ReadsNoJob }

-- a job whose numbers are good and whose plan is well-formed
abbrev pub IsSoundJob : Task → Type 0
IsSoundJob job = IsSoundRun job.plan job.root job.config

-- the error by which a job is refused
abbrev pub IsRefusedJob : Task → PipeError → Type 0
IsRefusedJob job e = IsRefusedRun job.plan job.root job.config e

-- no node under its root has more rows than its limit
abbrev pub IsWithinJob : Task → Type 0
IsWithinJob job = AllWithin job.config.row_limit job.plan job.root

-- a text is the lines of a job's rows
pub record IsRowLines (job : Task) (text : List ℕ) : Type 0 where
  -- the first line is its plan's schema, the further lines are those of its rows, each as often,
  pub row_lines : List (List ℕ)
  pub cut : lines text ≡ head_line (schema_of job.plan job.root) ∷ row_lines
  pub same : SameLines row_lines (map row_line (rows_of job.plan job.root))
  -- and in the sort's order where the root is a sort
  pub in_order : (input : ℕ) (by : List (List ℕ)) (options : SortOptions)
      → node_at job.plan.nodes job.root ≡ Sort input by options
      → row_lines ≡ map row_line (rows_of job.plan job.root)

-- a text and the end of its line
abbrev pub ended : List ℕ → List ℕ
ended text = text ++ 10 ∷ []

-- the texts of its plan's branches, in their order, a line each
abbrev pub branch_lines : Task → List ℕ
branch_lines job = flat_map ended (texts job.plan job.root)

-- ---- jobs that are looked at and aren't run

-- the contract of a command that writes something of a job that may be run; its rows aren't made, so no node has too many
abbrev pub looks_at : (Task → List ℕ → Type 0) → Contract
looks_at IsAnswer = record {
  kind = job_kind;
  IsSound = IsSoundJob;
  IsRefused = IsRefusedJob;
  HasMany = λ job n. ⊥;
  IsWithin = λ job. Unit {0};
  IsAnswer = IsAnswer;
  asks = false;
  statuses = 0 ∷ 2 ∷ 3 ∷ 4 ∷ 5 ∷ 6 ∷ 7 ∷ 9 ∷ 10 ∷ [];
}

-- ---- jobs for which something holds

-- bytes spell a job for which it holds,
pub record ReadsJobOf (Holds : Task → Type 0) (bytes : List ℕ) (job : Task) : Type 0 where
  pub read : ReadsJob bytes job
  pub holds : Holds job

-- or one for which it doesn't
pub record ReadsOtherJob (Holds : Task → Type 0) (bytes : List ℕ) : Type 0 where
  pub job : Task
  pub read : ReadsJob bytes job
  pub other : Holds job → ⊥

-- another job is none
abbrev pub jobs_of : (Task → Type 0) → Kind
jobs_of Holds = record {
  Input = Task;
  Reads = ReadsJobOf Holds;
  ReadsNothing = ReadsNothing;
  ReadsNone = λ bytes. ReadsNoJob bytes ⊎ ReadsOtherJob Holds bytes;
}

-- the contract of a command that writes something of such a job that may be run
abbrev pub looks_at_those : (Task → Type 0) → (Task → List ℕ → Type 0) → Contract
looks_at_those Holds IsAnswer = record {
  kind = jobs_of Holds;
  IsSound = IsSoundJob;
  IsRefused = IsRefusedJob;
  HasMany = λ job n. ⊥;
  IsWithin = λ job. Unit {0};
  IsAnswer = IsAnswer;
  asks = false;
  statuses = (looks_at IsAnswer).statuses;
}

-- ---- how a job that is looked at is refused

-- a job is refused with this status and this line
pub record IsRefusedWith (status : ℕ) (line : List ℕ) (job : Task) : Type 0 where
  pub error : PipeError
  pub refused : IsRefusedJob job error
  pub status_is : status ≡ fault_status error
  pub line_is : line ≡ fault_line error

-- what a refusal says of a job that is looked at
abbrev pub IsLookedAt : Refusal → Task → Type 0
IsLookedAt (refusal.Fault line) job = IsRefusedWith 6 line job
IsLookedAt (refusal.TooMany line) job = IsRefusedWith 7 line job
IsLookedAt refusal.Memory job = Unit {0}
IsLookedAt refusal.Stopped job = ⊥
IsLookedAt refusal.NotJson job = ⊥
IsLookedAt refusal.NotJob job = ⊥
IsLookedAt refusal.BadWords job = ⊥
IsLookedAt refusal.ReadFault job = ⊥
IsLookedAt refusal.TooLong job = ⊥
IsLookedAt refusal.WriteFault job = ⊥
